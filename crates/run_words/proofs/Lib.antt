pub mod WordLemmas
pub mod WordLemmasCommand
pub mod WordLemmasCounts
pub mod WordLemmasRows
pub mod WordLemmasShapes
pub mod WordLemmasTaken
pub mod WordLemmasTurns
pub mod WordLemmasWalk
