pub mod Walk
pub mod Lines
pub mod Clearance
