pub mod AsksAll
pub mod Lists
pub mod Rows
pub mod Arms
