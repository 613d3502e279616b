pub mod Asked
pub mod Holds
pub mod Sizes
