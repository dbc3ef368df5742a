pub mod ByteLemmas
pub mod CreationLemmas
pub mod PairLemmas
pub mod PowerLemmas
pub mod RoundLemmas
pub mod RowLemmas
