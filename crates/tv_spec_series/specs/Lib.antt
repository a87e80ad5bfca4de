pub mod Families
pub mod FamilyOf
pub mod Full
pub mod Reduced
pub mod ReducedFamilies
