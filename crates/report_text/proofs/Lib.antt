pub mod Splitting
pub mod Cut
pub mod Longer
