pub mod Coefficients
pub mod Faults
pub mod FamilyTold
pub mod Entries
pub mod Inserted
pub mod Keeping
pub mod Fronts
mod Gathered
mod Powers
mod WithSigns
pub mod Assembled
