pub mod Crowded
mod Asking
mod Prepared
pub mod Adding
