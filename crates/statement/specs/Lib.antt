pub mod Leaf
pub mod Asks
pub mod Aim
pub mod Stores
pub mod Fields
pub mod Rays
pub mod LeafKinds
pub mod Aside
