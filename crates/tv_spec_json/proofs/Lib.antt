pub mod Readings
mod Values
