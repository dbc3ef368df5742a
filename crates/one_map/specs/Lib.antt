pub mod PlainMap
pub mod Turns
pub mod Laws
pub mod CallTurns
pub mod WholeWalks
pub mod Answers
pub mod Linear
