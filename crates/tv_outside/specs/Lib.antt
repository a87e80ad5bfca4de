pub mod Edge
pub mod Faults
pub mod Reading
pub mod Schedule
pub mod Seen
pub mod Store
pub mod Supply
pub mod Writing
