pub mod ConstantSolutions
pub mod FoundTables
pub mod FirstAnswers
