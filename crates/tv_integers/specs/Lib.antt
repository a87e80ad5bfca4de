pub mod Places
pub mod Kept
pub mod Rows
pub mod Laws
