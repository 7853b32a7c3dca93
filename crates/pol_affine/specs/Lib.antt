pub mod RelationEquations
pub mod Systems
pub mod Answers
