pub mod Calls
pub mod Free
pub mod Under
