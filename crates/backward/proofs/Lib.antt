pub mod Course
pub mod Trees
pub mod Ifs
pub mod Switches
pub mod Loops
pub mod Holders
pub mod Statements
pub mod ByKind
