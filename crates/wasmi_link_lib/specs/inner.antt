pub mod Tables
pub mod Files
