mod Arrays
mod Objects
pub mod Exact
