pub mod Lowers
pub mod Allowed
pub mod Trees
pub mod Found
pub mod Steps
