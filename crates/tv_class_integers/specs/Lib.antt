pub mod Powers
pub mod Rows
pub mod Readings
pub mod Differences
pub mod ClassIntegers
pub mod NextClasses
