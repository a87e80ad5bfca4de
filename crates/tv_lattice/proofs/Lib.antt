pub mod Each
pub mod Excesses
pub mod Sums
