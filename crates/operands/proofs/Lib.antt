pub mod Lists
pub mod Absent
pub mod Members
pub mod Loops
pub mod Parts
pub mod Loads
pub mod ByKind
pub mod Vectors
