pub mod Reports
pub mod Checks
pub mod Summaries
pub mod Tallies
pub mod Due
pub mod Runs
pub mod Laws
pub mod Outputs
