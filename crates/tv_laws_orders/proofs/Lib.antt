mod Values
pub mod Ordered
pub mod Diagrams
pub mod Sets
pub mod Chosen
pub mod Strict
pub mod Told
pub mod Least
