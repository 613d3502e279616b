pub mod Overlaps
pub mod Trees
pub mod Leaves
pub mod Steps
