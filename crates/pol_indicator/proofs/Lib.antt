pub mod ColumnLemmas
pub mod RuleLemmas
pub mod ListedLemmas
pub mod ExactLemmas
pub mod BrokenLemmas
pub mod ClosedLemmas
