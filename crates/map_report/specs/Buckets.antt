-- What the turns of a bucket's lock do. A bucket is a list of elements, head first, each with its key and its values.
use Rattle.std.specs.Prelude.{ℕ, List, ◌∷◌, ◌++◌}
use Rattle.std.specs.List.{before_first, after_first}
use Rattle.map_types.specs.Stored.{Stored}
use Rattle.place_words.specs.Bodies.{has_key}
pub use Rattle.place_words.specs.Traces.{bucket_of_key}

-- the bucket with this in the place of the element that holds the key
abbrev pub with_in_place : List ℕ → Stored → List Stored → List Stored
with_in_place key stored bucket = before_first (has_key key) bucket ++ stored ∷ after_first (has_key key) bucket
