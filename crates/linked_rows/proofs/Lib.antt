pub mod LeadLemmas
pub mod ListLemmas
pub mod FoundLemmas
pub mod ChangeLemmas
