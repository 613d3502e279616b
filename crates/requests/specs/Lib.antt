pub mod Answer
pub mod Serve
pub mod Sequence
pub mod Loaded
pub mod Finish
pub mod Begin
pub mod Served
pub mod ReadAnswer
