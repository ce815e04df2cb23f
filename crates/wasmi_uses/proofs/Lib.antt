pub mod NameLemmas
pub mod FunctionLemmas
pub mod LookupLemmas
