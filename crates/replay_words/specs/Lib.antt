pub mod Replays
pub mod Notes
