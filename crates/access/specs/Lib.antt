pub mod File
pub mod Access
pub mod Laid
