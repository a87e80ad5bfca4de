pub mod RejectedReply
pub mod Checkable
pub mod CheckedReply
pub mod ToldPieces
pub mod Completeness
