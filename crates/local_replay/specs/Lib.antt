pub mod Replays
pub mod Walks
