pub mod Linked
pub mod Places
pub mod Turns
