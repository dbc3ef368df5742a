pub mod BodyList
pub mod Cells
pub mod Layout
pub mod Lending
