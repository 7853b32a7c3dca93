pub mod Arcs
pub mod Answers
pub mod Pruned
pub mod Waiting
