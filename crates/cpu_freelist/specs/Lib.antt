pub mod Stack
pub use Rattle.place_words.specs.Spread
