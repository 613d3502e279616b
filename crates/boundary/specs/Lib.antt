pub mod Answers
pub mod Requests
pub mod Rows
