pub mod InPieces
pub mod TableTurns
