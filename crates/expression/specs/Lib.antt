pub mod Walks
pub mod Visits
