pub mod WordPlaces
pub mod EntryWords
pub mod Between
pub mod SameCommand
