pub mod Reading
pub mod Limits
pub mod Files
pub mod Grammar
pub mod Spelling
pub mod Texts
pub mod Laws
