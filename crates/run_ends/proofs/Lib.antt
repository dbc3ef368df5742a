pub mod Io
