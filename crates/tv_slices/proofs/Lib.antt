pub mod Numbers
pub mod Put
pub mod Neighbours
pub mod Levels
pub mod Only
pub mod Ends
pub mod Heights
