pub mod CopyText
pub mod Rows
