pub mod Settling
pub mod Rounds
