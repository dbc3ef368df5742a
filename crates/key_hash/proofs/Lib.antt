pub mod Absorbing
pub mod Buckets
pub mod LastWords
