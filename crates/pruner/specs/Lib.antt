pub mod Form
pub mod Stored
pub mod Reading
