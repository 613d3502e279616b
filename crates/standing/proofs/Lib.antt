pub mod Aside
pub mod Stands
pub mod Walks
pub mod Readies
pub mod Arms
pub mod Taken
pub mod Cases
pub mod Loops
