pub mod AffineTables
pub mod Found
