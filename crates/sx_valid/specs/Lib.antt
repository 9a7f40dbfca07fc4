pub mod Fields
pub mod Survey
pub mod Valid
