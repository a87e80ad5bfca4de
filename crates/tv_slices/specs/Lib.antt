pub mod Rows
pub mod Tables
pub mod Joined
pub mod Bare
