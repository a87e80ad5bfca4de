pub mod Status
pub mod Texts
pub mod Boxes
pub mod Integers
pub mod SeriesReport
pub mod Reports
pub mod Carried
pub mod Residues
