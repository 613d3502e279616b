pub mod Places
pub mod Steps
pub mod Storing
pub mod Marked
pub mod Emit
pub mod Emitting
