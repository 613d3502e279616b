pub mod Bindings
pub mod TypeBindings
pub mod ContextBindings
pub mod Linear
pub mod Rows
pub mod Parts
pub mod Outputs
