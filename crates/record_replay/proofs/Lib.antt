pub mod BucketHistory
pub mod BucketLemmas
pub mod Fitting
pub mod PutBack
