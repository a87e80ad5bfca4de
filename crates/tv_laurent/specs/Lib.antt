pub mod Faults
pub mod SeriesCalls
pub mod QuotientCalls
pub mod PolyCalls
