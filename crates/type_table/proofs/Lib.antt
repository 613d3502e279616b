pub mod AllSized
pub mod Filled
