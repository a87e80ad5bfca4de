pub mod Zero
pub mod Placed
pub mod Reading
pub mod TestFamilies
