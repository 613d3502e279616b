pub mod Points
pub mod Merges
pub mod LoopEnd
pub mod Holds
