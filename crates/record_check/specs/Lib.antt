pub mod Flaws
pub mod HistoryLaws
pub mod Replayed
pub mod Said
pub mod VerdictLaws
pub mod Verdicts
