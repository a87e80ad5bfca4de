pub mod Samples
pub mod Values
mod StepValues
mod IntegerValues
mod MadeUp
mod RelationValues
