pub mod Shapes
pub mod Leaves
pub mod Taking
pub mod Places
pub mod Trimming
