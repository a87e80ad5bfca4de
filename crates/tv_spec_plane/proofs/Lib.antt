pub mod Examples
pub mod Turns
mod Values
