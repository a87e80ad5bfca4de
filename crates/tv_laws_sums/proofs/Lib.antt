pub mod Replaced
pub mod Running
pub mod Both
pub mod Left
pub mod Last
pub mod Values
