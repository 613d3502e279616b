pub mod Asks
pub mod Acts
pub mod Plain
pub mod Asking
