mod Rows
mod Within
mod FileText
pub mod RoundTrip
mod Tested
pub mod Passing
pub mod Texts
