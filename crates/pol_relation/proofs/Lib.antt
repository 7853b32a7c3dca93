pub mod NameLemmas
pub mod RangeLemmas
pub mod SolutionLemmas
pub mod TupleLemmas
pub mod WeightLemmas
pub mod RelationLemmas
pub mod SumLemmas
pub mod NameLookups
