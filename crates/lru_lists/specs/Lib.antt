pub mod Notes
pub mod Probes
pub mod Sets
