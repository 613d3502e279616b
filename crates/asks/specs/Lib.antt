pub mod Asks
pub mod Ways
