mod Values
pub mod Flipped
pub mod Passing
pub mod Carried
pub mod Exchanges
pub mod Images
pub mod Closed
