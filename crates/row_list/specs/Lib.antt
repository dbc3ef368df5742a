pub mod RowWords
pub mod Moves
