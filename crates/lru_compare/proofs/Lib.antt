pub mod Recency
pub mod Runs
pub mod Counts
pub mod OwnSets
pub mod FewKeys
pub mod AlikeSteps
pub mod AlikeRuns
pub mod Alike
