pub mod Values
mod BoxesValues
mod GrammarValues
mod IntegersReportValues
mod ResidueValues
