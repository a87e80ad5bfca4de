pub mod Printing
pub mod Sections
pub mod Remainders
pub mod IntegerSections
mod Configs
mod Counts
pub mod LeastRemainders
pub mod ResidueTerms
pub mod ResidueLines
mod SameClasses
