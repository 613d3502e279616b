pub mod Sums
pub mod Leaving
