pub mod StrandTables
pub mod PartLaws
pub mod PhaseTables
