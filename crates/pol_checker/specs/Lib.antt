pub mod Verdicts
pub mod VerdictTexts
pub mod Laws
