pub mod Boundary
pub mod Listed
pub mod Inputs
pub mod Walks
