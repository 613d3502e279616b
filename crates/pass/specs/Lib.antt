pub mod Pass
pub mod Checked
