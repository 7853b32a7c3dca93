pub mod Indicators
pub mod Ruled
pub mod Closing
