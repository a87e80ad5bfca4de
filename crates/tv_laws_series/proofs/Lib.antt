pub mod Exponents
pub mod Listed
pub mod Padded
pub mod SeriesFrom
pub mod SeriesRing
pub mod Quotients
pub mod SeriesQuotients
pub mod NormalForm
pub mod PolyFrom
pub mod PolyRing
pub mod PolySizes
pub mod PolyReach
pub mod PolySizeLaws
pub mod PolyKept
pub mod Coefficients
pub mod PairSums
mod Values
