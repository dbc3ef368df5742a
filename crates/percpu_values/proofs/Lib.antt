pub mod PartLemmas
pub mod FieldLemmas
pub mod SizeLemmas
pub mod SideLemmas
pub mod CellLemmas
pub mod Crossing
