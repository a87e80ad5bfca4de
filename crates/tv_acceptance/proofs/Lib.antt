pub mod Reading
pub mod Sound
pub mod Excluded
pub mod AcceptedSigns
pub mod GridWebs
