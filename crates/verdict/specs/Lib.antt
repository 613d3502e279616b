pub mod Heard
pub mod Tables
pub mod Checks
