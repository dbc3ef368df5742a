pub mod Ordered
pub mod InCalls
pub mod OrderLaws
pub mod Nests
