pub mod Alike
pub mod Marked
pub mod Unsized
pub mod Paths
pub mod Shapes
pub mod Given
pub mod Blamed
pub mod Subject
