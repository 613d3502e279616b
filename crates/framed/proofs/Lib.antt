pub mod Solid
pub mod Given
pub mod Same
pub mod Slots
pub mod Paths
pub mod Takes
pub mod Framed
pub mod Kept
