pub mod InMemory
pub mod SourceReads
pub mod Writes
