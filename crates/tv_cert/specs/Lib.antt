pub mod Verified
pub mod Powers
pub mod Slopes
pub mod Differences
pub mod Plans
pub mod Tested
