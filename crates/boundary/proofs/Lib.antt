pub mod Answers
pub mod Lengths
pub mod Types
pub mod Requests
pub mod Numbers
