pub mod ShapeBy
pub mod Narrow
pub mod Frames
