pub mod Extracted
pub mod Progress
