pub mod Hearing
pub mod Filling
pub mod Checking
