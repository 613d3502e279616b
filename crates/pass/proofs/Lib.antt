pub mod Carry
pub mod After
pub mod Pass
pub mod Fits
pub mod Checked
pub mod Example
