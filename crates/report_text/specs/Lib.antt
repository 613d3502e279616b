pub mod Split
pub mod Input
