pub mod ListCode
pub mod CoreLemmas
pub mod HeldLemmas
pub mod RehomeLemmas
pub mod OpeningCore
pub mod Answered
