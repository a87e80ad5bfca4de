pub mod Operations
pub mod Sums
pub mod Whole
pub mod Residue
pub mod Integers
pub mod WholeLaws
pub mod ResidueLaws
