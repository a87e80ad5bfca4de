pub mod KatzParts
pub mod Parts
pub mod Products
pub mod Rows
