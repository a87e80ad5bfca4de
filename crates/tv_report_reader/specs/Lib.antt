pub mod Told
pub mod Faults
pub mod Rows
pub mod Checks
pub mod Stages
pub mod Drafts
pub mod Laws
