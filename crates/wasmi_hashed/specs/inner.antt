pub mod MapEntry
