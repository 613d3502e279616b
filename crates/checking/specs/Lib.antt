pub mod Check
pub mod Word
pub mod Line
pub mod Claims
pub mod Stretch
