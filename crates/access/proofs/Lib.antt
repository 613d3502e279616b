pub mod Access
pub mod Laid
pub mod Optional
