pub mod Lines
pub mod Linking
pub mod inner
pub mod Paths
pub mod Report
pub mod Files
