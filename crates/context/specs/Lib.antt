pub mod Remove
pub mod RequiredContext
pub mod Swizzle
pub mod Wgsl
pub mod Components
pub mod Types
pub mod Reduced
pub mod Contexts
