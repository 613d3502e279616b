pub mod Shown
pub mod Walking
pub mod Requesting
pub mod Whole
