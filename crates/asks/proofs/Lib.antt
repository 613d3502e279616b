pub mod ByKind
pub mod Reach
pub mod FieldAsks
pub mod Telling
pub mod ArmOf
