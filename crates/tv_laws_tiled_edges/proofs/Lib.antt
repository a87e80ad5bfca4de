pub mod Corners
pub mod Shared
pub mod Owners
pub mod Rules
pub mod Turned
pub mod Places
pub mod Named
