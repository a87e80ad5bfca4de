pub mod Degrees
pub mod Sums
pub mod Closing
pub mod Slopes
