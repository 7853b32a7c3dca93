pub mod Solving
pub mod Answers
