pub mod ByPlace
pub mod Judged
pub mod Pushing
pub mod OwnTurns
pub mod Replayed
pub mod GlobalTurns
