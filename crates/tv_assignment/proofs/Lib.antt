pub mod Listed
pub mod Bounded
mod Degrees
pub mod Summed
pub mod Written
mod OpenLegs
