pub mod Paths
pub mod Passing
pub mod Stepping
pub mod TwoWords
pub mod SourceKinds
