pub mod BadLines
pub mod Decimals
pub mod Entries
pub mod Exact
mod Parts
pub mod Printing
mod Reading
pub mod Spellings
