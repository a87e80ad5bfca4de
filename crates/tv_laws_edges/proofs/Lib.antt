pub mod Ring
pub mod Rules
pub mod Parity
pub mod Bits
pub mod Entries
pub mod Classes
pub mod Shown
