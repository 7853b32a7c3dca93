pub mod FoldLemmas
pub mod FoldingLemmas
pub mod ProjectedLemmas
pub mod OpenLemmas
pub mod ClosedLemmas
