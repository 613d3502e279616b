pub mod Lower
pub mod Exits
pub mod Places
