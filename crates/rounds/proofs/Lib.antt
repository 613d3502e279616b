pub mod Tables
pub mod Begun
pub mod Passed
pub mod Answering
pub mod Turns
