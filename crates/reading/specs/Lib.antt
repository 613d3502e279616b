pub mod Ends
pub mod Holding
pub mod Progress
pub mod Reads
pub mod Steps
