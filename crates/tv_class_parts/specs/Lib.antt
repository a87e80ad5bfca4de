pub mod ReadClasses
pub mod Tables
pub mod Progress
pub mod Numbers
pub mod Ways
