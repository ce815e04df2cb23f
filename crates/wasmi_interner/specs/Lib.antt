pub mod BinaryDigits
pub mod Interner
pub mod LenOrder
pub mod LenOrderLaws
pub mod Search
pub mod inner
