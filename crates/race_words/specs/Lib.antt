pub mod Nests
pub mod RaceLaws
