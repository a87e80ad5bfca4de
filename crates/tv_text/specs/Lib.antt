pub mod Rows
pub mod Stages
pub mod Drafts
pub mod Faults
pub mod Printed
pub mod Refusals
pub mod Sections
pub mod Laws
