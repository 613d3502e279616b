pub mod Worked
pub mod Examples
pub mod Zeroes
pub mod Points
