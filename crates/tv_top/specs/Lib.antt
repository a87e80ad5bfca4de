pub mod Changes
pub mod Verification
pub mod Answers
pub mod Replies
pub mod Listings
pub mod Completeness
pub mod Laws
