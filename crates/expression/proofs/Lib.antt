pub mod Visits
pub mod Maps
pub mod Globals
pub mod Arms
pub mod Turns
pub mod Walking
