pub mod Asking
pub mod Rotating
