pub mod MapLend
pub mod MapEntry
pub mod inner
