pub mod Assigned
mod Lefts
mod Edges
mod Walks
mod Counted
mod Moved
mod Less
mod Tabled
mod Ends
mod Readings
mod Words
