pub mod Acceptance
pub mod Rejections
pub mod Laws
