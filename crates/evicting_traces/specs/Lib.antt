pub mod Reading
pub mod Parts
pub mod Calls
pub mod Laws
pub mod Worked
