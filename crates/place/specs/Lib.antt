pub mod Target
pub mod Steps
pub mod Slots
pub mod Sources
