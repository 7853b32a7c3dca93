pub mod CellLemmas
pub mod MemberLemmas
pub mod OrderLemmas
pub mod LookupLemmas
pub mod BitLemmas
pub mod MaskLemmas
pub mod Enumeration
