-- What sources and sinks do, and what their counts of faults say.
pub mod Adapters
pub mod Contents
pub mod Faults
pub mod Memory
