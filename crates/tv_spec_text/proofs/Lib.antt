pub mod PlainWords
pub mod Places
pub mod Readings
mod Values
