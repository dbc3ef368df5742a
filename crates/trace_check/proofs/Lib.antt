mod CommonParts
pub mod Readers
pub mod Grouping
pub mod Rings
pub mod Taking
pub mod Answering
pub mod Fields
pub mod WalkedPairs
pub mod Entries
pub mod KeyPlaces
pub mod HandedPairs
pub mod CallsRead
pub mod Tests
pub mod Keys
pub mod Puts
pub mod Walking
pub mod Lifting
pub mod Writing
pub mod Batches
pub mod Handing
pub mod Whole
pub mod WritingBy
pub mod WholeBy
pub mod Counting
mod WorkedTurns
