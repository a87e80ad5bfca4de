pub mod Further
pub mod Gathered
pub mod Logarithm
pub mod Recurrence
pub mod Sizes
pub mod Weights
