pub mod Own
pub mod Others
pub mod Ends
pub mod Rests
