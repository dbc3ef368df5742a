pub mod ElementLemmas
pub mod RowLemmas
pub mod PlainLemmas
pub mod MoveLemmas
