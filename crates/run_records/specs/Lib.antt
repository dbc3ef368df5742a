pub mod ByLogs
pub mod Copies
pub mod Parts
pub mod Phased
pub mod Races
pub mod SerialPhases
pub mod Work
