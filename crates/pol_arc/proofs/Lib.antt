pub mod PairLemmas
pub mod MaskLemmas
pub mod SupportLemmas
pub mod PruningLemmas
pub mod WaitingLemmas
pub mod Sifting
pub mod WidthOne
