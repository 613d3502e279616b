pub mod Emit
pub mod Visit
pub mod Ifs
pub mod Loops
pub mod Switches
pub mod Calls
