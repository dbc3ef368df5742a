pub mod Numbered
pub mod ByteLemmas
pub mod DrawLemmas
pub mod CallLemmas
pub mod WorkloadLemmas
