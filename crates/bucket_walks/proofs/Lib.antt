pub mod Told
pub mod Turn
pub mod Past
pub mod Found
pub mod Gathered
pub mod Paged
pub mod Wholes
pub mod Ends
