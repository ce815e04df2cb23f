pub mod Drained
pub mod Entries
pub mod MapEntry
pub mod MapLend
pub mod inner
