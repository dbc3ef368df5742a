pub mod Readers
pub mod Tests
pub mod Chases
pub mod Groups
pub mod Freeing
pub mod Refilling
pub mod Taking
pub mod Keys
pub mod Batches
pub mod Whole
pub mod Counting
mod Grouping
mod Ways
mod Rings
mod Telling
mod KeyTelling
mod Entries
mod Emptying
mod Answering
mod Alone
mod WalkedSeens
mod CallsRead
mod WorkedTurns
