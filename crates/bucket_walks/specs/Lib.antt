pub mod Looks
pub mod Pages
pub mod Plans
pub mod BatchReads
