pub mod TableLemmas
pub mod VerdictLemmas
pub mod FaultLemmas
