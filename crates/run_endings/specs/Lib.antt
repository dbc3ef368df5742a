pub mod Divided
pub mod Divisions
pub mod Causes
pub mod Finish
pub mod Runs
pub mod Comparisons
