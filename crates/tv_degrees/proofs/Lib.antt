pub mod Entries
pub mod Heights
pub mod Graded
pub mod Signs
pub mod Bounds
