pub mod Finding
pub mod Gathering
pub mod Pairs
pub mod Lists
pub mod Ruled
pub mod Places
