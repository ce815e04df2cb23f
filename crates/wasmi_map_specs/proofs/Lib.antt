pub mod Handed
pub mod HandedOn
pub mod Made
pub mod Values
pub mod Walk
pub mod Words
