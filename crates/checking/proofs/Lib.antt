pub mod Word
pub mod Broken
pub mod Meaning
pub mod Claims
pub mod Numbers
pub mod Counting
pub mod Shaped
