pub mod Bucket
pub mod Jhash
pub mod State
