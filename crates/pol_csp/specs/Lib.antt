pub mod Narrowing
pub mod Searching
pub mod Variables
pub mod Words
pub mod Problems
