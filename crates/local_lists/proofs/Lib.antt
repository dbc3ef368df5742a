pub mod Crossing
pub mod LocalLemmas
pub mod ToldLemmas
mod WorkedLocals
