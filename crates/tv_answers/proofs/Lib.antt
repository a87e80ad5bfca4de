pub mod Told
pub mod FullReport
pub mod ReducedReport
pub mod WideNumbers
pub mod IntegersReport
pub mod SummaryReport
pub mod ResidueReport
