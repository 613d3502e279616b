pub mod Linear
pub mod Sets
pub mod Ascending
pub mod Rows
pub mod Writing
pub mod Members
pub mod Sums
pub mod Returning
