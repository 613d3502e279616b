pub mod Layout
pub mod Want
pub mod Flat
pub mod Memory
pub mod Picks
pub mod Stretches
