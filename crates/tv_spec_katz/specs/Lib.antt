pub mod Binomials
pub mod Places
pub mod Product
pub mod Katz
pub mod Integers
pub mod Relations
pub mod Majorant
