pub mod Strict
pub mod Run
pub mod Law
pub mod Comparison
