pub mod BucketSteps
pub mod ReplayLaws
pub mod Popping
