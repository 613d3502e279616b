pub mod Files
pub mod Programs
pub mod Texts
