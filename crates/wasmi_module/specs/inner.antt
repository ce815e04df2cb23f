pub mod Reading
pub mod Order
