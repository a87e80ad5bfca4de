pub mod Turns
pub mod Cancels
pub mod Crossings
pub mod Lists
pub mod Heights
pub mod Runs
pub mod Spread
pub mod Sides
pub mod Insides
pub mod Matched
pub mod Exchanges
mod Examples
mod Counterexamples
pub mod Members
pub mod Squares
pub mod SquareSides
pub mod Diagonals
mod SquareEdges
