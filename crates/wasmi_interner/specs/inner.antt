pub mod Hash
pub mod HashTable
pub mod Index
pub mod RestBlocks
pub mod Texts
pub mod Search
