-- Two orders of one small race of a HASH map: a CPU adds a key while another deletes one that isn't there, in one bucket.
use Rattle.std.specs.Prelude.{ℕ, List, [], ◌∷◌, take, None, false}
use Rattle.map_types.specs.declared.attr.Shape.{Shape}
use Rattle.map_types.specs.declared.kind.MapKind.TheVariants.{Hash}
use Rattle.map_types.specs.declared.kind.Side.TheVariants.{Prog}
use Rattle.map_types.specs.declared.kind.DomainId.TheVariants.{Local, Global, Bucket, Freelist}
use Rattle.place_words.specs.declared.bucket_part.BucketPart.TheVariants.{Update, Delete}
use Rattle.place_words.specs.declared.bucket_part.Put.TheVariants as puts
use Rattle.place_words.specs.declared.free_part.FreePart.TheVariants.{Popped}
use Rattle.place_words.specs.declared.history.Part.{Part}
use Rattle.place_words.specs.declared.history.Part.TheVariants as parts
use Rattle.place_words.specs.Histories.{opening_content}
use Rattle.place_words.specs.OpeningState.{opening}
use Rattle.place_words.specs.Interleaving.{Drawn, interleaved, AreEnabled}
use Rattle.core_runs.specs.Races.{AreTurns}
use Rattle.core_runs.specs.SharedRaces.{AreShared, at_rest}
use Rattle.map_types.specs.Kind.{is_lru}
use Rattle.std.specs.Prelude.{IsTrue}
use Rattle.core_runs.specs.Words.{words_of, RunsByWords}
use Rattle.core_runs.specs.Rows.{drawn, first_turn, first_refill}
use Rattle.core_runs.specs.Rows as rows
use Rattle.map_types.specs.Shape.{HasBounds}

abbrev pub race_shape : Shape
race_shape = record { kind = Hash; cpus = 2; capacity = 1; elements = 3; buckets = 1; key_size = 1; value_size = 1; seed = 0; common = false }

abbrev pub pop : Part
pop = parts.Free (Popped 2)

abbrev pub delete : Part
delete = parts.Bucket (Delete (2 ∷ []) None)

abbrev pub update : Part
update = parts.Bucket (Update Prog 0 (1 ∷ []) (71 ∷ []) None (puts.Added 2))

-- the pop is made inside the update
abbrev pub fair : List Drawn
fair = drawn 0 1 2 (Freelist 1) pop ∷ drawn 1 1 2 (Bucket 0) update ∷ drawn 2 0 1 (Bucket 0) delete ∷ []

-- the delete's turn of the bucket stands between them
abbrev pub forged : List Drawn
forged = drawn 0 1 2 (Freelist 1) pop ∷ drawn 1 0 1 (Bucket 0) delete ∷ drawn 2 1 2 (Bucket 0) update ∷ []

abbrev pub no_debt : ℕ → List ℕ
no_debt b = []

abbrev pub ForgedTurns : Type 0
ForgedTurns = AreTurns race_shape (opening_content race_shape) no_debt forged

abbrev pub ForgedFails : Type 0
ForgedFails = RunsByWords race_shape (words_of (opening race_shape)) (interleaved race_shape (opening_content race_shape) [] forged) → ⊥

-- The interleaving may be done up to any event exactly where words allow it up to there.
pub record ByWords (shape : Shape) (turns : List Drawn) : Type 0 where
  pub enabled : (n : ℕ) → RunsByWords shape (words_of (opening shape)) (take n (interleaved shape (opening_content shape) [] turns)) → AreEnabled shape (opening shape) (take n (interleaved shape (opening_content shape) [] turns))
  pub words : (n : ℕ) → AreEnabled shape (opening shape) (take n (interleaved shape (opening_content shape) [] turns)) → RunsByWords shape (words_of (opening shape)) (take n (interleaved shape (opening_content shape) [] turns))

-- Of every map that doesn't evict, or whose CPUs have lists of their own
abbrev pub RacesByWords : Type 0
RacesByWords = (shape : Shape) → HasBounds shape → (turns : List Drawn) → AreTurns shape (opening_content shape) no_debt turns → ByWords shape turns

-- And of every map whose CPUs share lists
abbrev pub SharedByWords : Type 0
SharedByWords = (shape : Shape) → HasBounds shape → IsTrue (is_lru shape.kind) → IsTrue shape.common → (turns : List Drawn) → AreShared shape (opening_content shape) at_rest [] turns → ByWords shape turns

-- The refill of the race of `Rows`, with the turn of the global lists inside it
abbrev pub refilled : List Drawn
refilled = drawn 0 0 1 Global first_turn ∷ drawn 1 0 1 (Local 0) first_refill ∷ []

abbrev pub RefilledTurns : Type 0
RefilledTurns = AreShared rows.shape (opening_content rows.shape) at_rest [] refilled
