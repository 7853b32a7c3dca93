pub mod Named
pub mod Weights
pub mod Instances
pub mod Relations
