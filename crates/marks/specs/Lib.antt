pub mod Places
pub mod Ray
pub mod Report
