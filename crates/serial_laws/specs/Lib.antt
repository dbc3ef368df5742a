pub mod Entries
pub mod Laws
pub mod Served
pub mod WalkLaws
