pub mod Acts
pub mod Marks
