pub mod Terms
pub mod Series
pub mod SeriesLaws
pub mod Quotients
pub mod QuotientLaws
pub mod Polynomials
pub mod Coefficients
