pub mod SizeLemmas
pub mod LeastLemmas
pub mod AffineLemmas
pub mod CompositionLemmas
pub mod SetTables
pub mod FoundLemmas
