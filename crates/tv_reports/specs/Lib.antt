pub mod Sections
pub mod Sums
pub mod IntegerSections
pub mod Configs
pub mod LeastRemainders
pub mod Residues
