pub mod Fits
pub mod Hold
