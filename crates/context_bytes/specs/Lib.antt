pub mod Checked
pub mod Covered
pub mod Counted
pub mod Found
pub mod Subparts
