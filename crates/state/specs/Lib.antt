pub mod State
pub mod Ready
pub mod Frame
pub mod Stored
