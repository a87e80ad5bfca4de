pub mod Behind
pub mod Ordered
pub mod Entries
pub mod Diagonals
pub mod Outside
