pub mod Tuples
pub mod Least
pub mod Lists
pub mod Masks
pub mod Names
pub mod Laws
