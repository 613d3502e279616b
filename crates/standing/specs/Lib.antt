pub mod Exits
pub mod Passing
pub mod Slots
pub mod Standing
pub mod World
