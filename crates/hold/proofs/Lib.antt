pub mod Reach
pub mod Count
pub mod Slots
pub mod Pushes
