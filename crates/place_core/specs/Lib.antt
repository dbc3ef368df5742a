pub mod Answers
pub mod CoreView
pub mod OpeningView
pub use Rattle.place_words.specs.Interleaving
pub use Rattle.place_words.specs.OpeningState as Opening
pub use Rattle.place_words.specs.Places
pub use Rattle.place_words.specs.Ranks
pub use Rattle.place_words.specs.State
pub use Rattle.place_words.specs.Steps
pub use Rattle.place_words.specs.Totals
pub use Rattle.place_words.specs.Wholeness
