pub mod Mapped
pub mod Degrees
pub mod Search
pub mod Places
pub mod Held
pub mod Told
pub mod Dividends
pub mod CutFamilies
