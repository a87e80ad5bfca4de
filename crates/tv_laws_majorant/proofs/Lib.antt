pub mod Central
pub mod Leads
pub mod Wide
