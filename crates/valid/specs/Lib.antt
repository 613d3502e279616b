pub mod Valid
pub mod There
