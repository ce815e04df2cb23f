pub mod Errors
pub mod Maps
pub mod Same
pub mod Seen
pub mod Sets
pub mod Values
pub mod inner
