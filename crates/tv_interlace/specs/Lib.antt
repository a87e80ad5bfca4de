pub mod Places
pub mod Bounds
pub mod Rooms
pub mod Columns
