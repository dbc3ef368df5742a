pub mod Laws
mod Flushing
mod Loops
mod OfCalls
mod OneVerdict
mod TakenOut
mod Told
mod VerdictLaws
mod Verdicts
