pub mod Lean
pub mod Steps
