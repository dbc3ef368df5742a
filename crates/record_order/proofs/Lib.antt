pub mod Ascents
pub mod FirstWrong
pub mod Judged
pub mod Law
pub mod LocksOnce
pub mod Loops
pub mod Named
pub mod OnceEach
pub mod Places
pub mod Raised
mod Worked
