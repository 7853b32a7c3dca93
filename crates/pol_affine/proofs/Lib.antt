pub mod Carried
pub mod LabelRows
pub mod Weights
pub mod UsedParts
pub mod PlacedLemmas
pub mod SystemLemmas
