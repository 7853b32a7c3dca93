pub mod ReadingLemmas
pub mod LinePlaces
pub mod LineLemmas
pub mod PrintedLines
pub mod TextLemmas
pub mod NumberLemmas
