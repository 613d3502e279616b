pub mod Given
pub mod Same
pub mod Places
pub mod Kept
