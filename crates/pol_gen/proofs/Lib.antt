pub mod DrawLemmas
pub mod RowLemmas
pub mod NameLemmas
pub mod ConstraintLemmas
pub mod LanguageLemmas
pub mod InstanceLemmas
pub mod SolvedLemmas
