pub mod Adding
pub mod Summed
pub mod Closed
pub mod Depths
pub mod TestSizes
