pub mod ExactQuotients
pub mod KatzTotals
pub mod NumberSums
pub mod PartTotals
mod PartValues
pub mod PartialSums
pub mod QuotientRows
pub mod ShareSizes
pub mod Steps
pub mod TakenRows
pub mod TakenSums
pub mod WeightedPlaces
