pub mod Saying
pub mod Recording
pub mod Meaning
