pub mod Folds
pub mod Sought
pub mod OpenCells
pub mod Projected
pub mod Laws
