pub mod SeriesCalls
pub mod Convolved
pub mod Wide
pub mod SeriesResults
pub mod Divided
pub mod PolyResults
