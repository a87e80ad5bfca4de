mod Values
mod LegValues
pub mod Rising
pub mod Downward
pub mod Sublists
pub mod Cubes
pub mod Diagonals
pub mod Overlaps
pub mod Bounded
pub mod Dropped
pub mod Inside
