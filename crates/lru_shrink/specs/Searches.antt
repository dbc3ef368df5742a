-- What the two walks over a list of rows did that look for one element to take.
use Rattle.std.specs.Prelude.{◌≡◌, ◌≤◌, ℕ, List, [], ◌∷◌, ◌++◌, map, length, Option, MatchOption}
use Rattle.std.specs.Option.{IfSome}
use Rattle.map_types.specs.ElementLists.{IsIn}
use Rattle.map_types.specs.Listed.{elements_of}
use Rattle.map_types.specs.Stored.{Stored}
use Rattle.map_types.specs.declared.row.Row.{Row}
use Rattle.place_words.specs.Locals.{AreSparing, AreUnsparing}
use Rattle.place_words.specs.declared.visits.Look.{Look}
use Rattle.place_words.specs.declared.visits.Try.{Try}
use Rattle.lru_lists.specs.Notes.{AreNoted}
use Rattle.lru_lists.specs.declared.bits.BitCall.{BitCall}
use Rattle.lru_lists.specs.declared.bits.BitCall.TheVariants.{Read}
use Rattle.lru_lists.specs.declared.notes.Noted.{Noted}
use Rattle.lru_shrink.specs.Asking.{Questions}
use Rattle.lru_shrink.specs.Shrunk.{probes_of_looks, probes_of_tries, removed_by_looks, removed_by_tries}

-- the calls that only read a bit, one for each look
abbrev pub bits_read : List Look → List BitCall
bits_read looks = map (λ look. Read (record { element = look.element; bit = look.bit })) looks

-- What a search answers by the elements that it removed: nothing where it removed none, else the body of the one that it
-- removed. `gives` is known of the body.
abbrev pub IsFound : (Stored → Type 0) → List ℕ → Option Stored → Type 0
IsFound gives removed found = MatchOption found (removed ≡ []) (λ body. (removed ≡ body.element ∷ []) × gives body)

-- A moment of a search: what was asked so far, and the notes.
pub record SearchMoment (Notes : Type 0) : Type 0 where
  pub asked : Questions
  pub notes : Notes

-- The walk that spares set bits, by the moments before and after it and by its answer. Each look is one call that reads the
-- bit, and each look whose bit wasn't set is one probe.
pub record SparingSearch (rows : List Row) (gives : Stored → Type 0) (before after : SearchMoment (Noted Look))
    (found : Option Stored) : Type 0 where
  pub looks : List Look
  pub are : AreSparing rows looks
  pub few : length looks ≤ length rows
  pub asked : after.asked.calls ≡ before.asked.calls ++ bits_read looks
  pub probed : after.asked.probes ≡ before.asked.probes ++ probes_of_looks rows looks
  pub noted : AreNoted looks before.notes after.notes
  pub answer : IsFound gives (removed_by_looks looks) found
  pub there : IfSome found (λ body. IsIn body.element (elements_of rows))

-- The walk that spares none: each try is one probe, and no bit is asked for.
pub record UnsparingSearch (rows : List Row) (gives : Stored → Type 0) (before after : SearchMoment (Noted Try))
    (found : Option Stored) : Type 0 where
  pub tries : List Try
  pub are : AreUnsparing rows tries
  pub few : length tries ≤ length rows
  pub asked : after.asked.calls ≡ before.asked.calls
  pub probed : after.asked.probes ≡ before.asked.probes ++ probes_of_tries rows tries
  pub noted : AreNoted tries before.notes after.notes
  pub answer : IsFound gives (removed_by_tries tries) found
  pub there : IfSome found (λ body. IsIn body.element (elements_of rows))
