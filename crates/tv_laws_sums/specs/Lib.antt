pub mod Mixed
pub mod Sums
pub mod Laws
