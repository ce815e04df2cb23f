mod BinaryDigits
mod Filing
mod Halves
pub mod Interning
mod InternsEach
mod JoinedTexts
mod LengthOrder
mod Meeting
mod RestBlocks
pub mod Symbols
mod WithSymbols
pub mod Searched
