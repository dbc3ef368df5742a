pub mod Fits
pub mod OfTable
pub mod ShapeLaws
pub mod ShapedParts
pub mod WellShaped
