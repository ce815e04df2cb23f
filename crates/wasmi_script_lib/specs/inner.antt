pub mod Meanings
pub mod Sessions
