pub mod Crossing
pub mod CursorLemmas
pub mod NoteLemmas
pub mod SetLemmas
mod WorkedMoves
