pub mod EvenSums
pub mod Signs
pub mod PartialSigns
pub mod Whole
