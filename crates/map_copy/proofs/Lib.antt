pub mod CopyLemmas
pub mod StepLemmas
pub mod BoundLemmas
pub mod BucketLemmas
pub mod EndLemmas
pub mod NeighbourLemmas
pub mod RowsWorked
pub mod ScriptLemmas
