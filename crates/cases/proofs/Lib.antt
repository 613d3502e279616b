pub mod Compute
pub mod Served
pub mod Table
