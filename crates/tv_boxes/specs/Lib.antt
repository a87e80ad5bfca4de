pub mod Next
pub mod Stages
