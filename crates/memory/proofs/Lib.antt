pub mod Cuts
pub mod Asks
pub mod Slots
pub mod Records
pub mod FlatParts
pub mod Notes
pub mod Joins
pub mod Runs
