pub mod Rings
pub mod Sums
pub mod Products
pub mod Times
pub mod Sizes
