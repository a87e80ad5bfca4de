pub mod WideNumbers
pub mod Ends
pub mod Spelled
pub mod HeadSteps
pub mod Sections
pub mod BodySteps
pub mod LinesRead
pub mod Dense
pub mod Families
pub mod Putting
pub mod Readings
mod Values
