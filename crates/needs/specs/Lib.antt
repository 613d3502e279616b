pub mod Lean
pub mod Framed
