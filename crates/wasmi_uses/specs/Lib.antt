pub mod Names
pub mod Functions
