pub mod ArenaLoans
pub mod ArenaGrowth
pub mod PairOrError
mod Components
pub mod ComponentEntries
