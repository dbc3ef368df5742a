-- What a probe sees in a hand, by the turns with lower tickets.
use Rattle.std.specs.Prelude.{◌≡◌, ℕ, List, [], ◌∷◌, ◌++◌, length}
use Rattle.map_types.specs.declared.attr.Shape.{Shape}
use Rattle.place_words.specs.declared.bucket_part.BucketPart.TheVariants.{Evict}
use Rattle.place_words.specs.declared.bucket_part.Seen.TheVariants.{Held}
use Rattle.place_words.specs.declared.history.LockHistory.{LockHistory}
use Rattle.place_words.specs.declared.history.Part.TheVariants as parts
use Rattle.place_words.specs.declared.owner.Owner.TheVariants as owners
use Rattle.place_words.specs.Histories.{opening_content}
use Rattle.place_words.specs.Interleaving.{Drawn}
use Rattle.place_words.specs.OpeningState.{opening}
use Rattle.turn_order.specs.Ordered.{interleaved_to, ordered}
use Rattle.core_runs.specs.Words.{Words, words_of}
use Rattle.step_check.specs.Ran.{words_over}

-- the words after so many turns, in the order of their tickets
abbrev pub words_to : Shape → List LockHistory → ℕ → Words
words_to shape histories n =
    words_over shape (words_of (opening shape)) (interleaved_to n shape (opening_content shape) [] (ordered histories))

-- Whenever a probe found an element in a hand, it is in this hand by the turns with lower tickets.
abbrev pub LooksRight : Shape → List LockHistory → Type 0
LooksRight shape histories =
    (before : List Drawn) (probe : Drawn) (later : List Drawn) → ordered histories ≡ before ++ probe ∷ later
    → (e holder : ℕ) → probe.entry.part ≡ parts.Bucket (Evict e (Held holder))
    → (words_to shape histories (length before)).owner e ≡ owners.Hand holder
