pub mod Plans
pub mod Keys
pub mod Tells
pub mod Parts
