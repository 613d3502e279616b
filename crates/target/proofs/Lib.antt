pub mod Resolving
pub mod Checking
pub mod Taking
