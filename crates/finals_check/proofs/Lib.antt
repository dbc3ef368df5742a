pub mod Held
pub mod MetLists
pub mod Tables
pub mod Telling
