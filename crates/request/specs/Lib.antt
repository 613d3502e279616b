pub mod Fields
pub mod Part
pub mod Request
pub mod Context
pub mod Filed
pub mod Answers
pub mod Codes
pub mod Written
