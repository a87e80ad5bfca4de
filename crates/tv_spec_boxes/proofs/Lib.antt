mod Values
mod CountValues
pub mod Vectors
pub mod OneCorner
pub mod OneCornerWeb
pub mod OneCornerCount
pub mod OneCornerClass
pub mod OneCornerCrowd
pub mod Members
