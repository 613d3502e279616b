pub mod Buffers
pub mod Cases
