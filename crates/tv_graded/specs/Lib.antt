pub mod Places
pub mod Calls
pub mod Laws
pub mod Listing
