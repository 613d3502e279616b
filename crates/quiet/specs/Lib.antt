pub mod Acts
pub mod Places
