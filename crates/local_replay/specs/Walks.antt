-- Tests of what a turn of local lists tells of walks over pending, row by row, tail first.
use Rattle.std.specs.Prelude.{ℕ, ◌==◌, Bool, true, false, not, ◌&&◌, List, [], ◌∷◌, length, is_some, if◌then◌else◌}
use Rattle.map_types.specs.declared.row.Row.{Row}
use Rattle.place_words.specs.declared.visits.Look.{Look}
use Rattle.place_words.specs.declared.visits.Try.{Try}
use Rattle.place_words.specs.declared.visits.Visit.{Visit}
use Rattle.place_words.specs.Shrinking.{look_removed, try_removed}

-- whether these are visits of all rows, in their order
unfoldable pub visits_are : List Row → List Visit → Bool
visits_are [] [] = true
visits_are [] (visit ∷ visits) = false
visits_are (row ∷ rows) [] = false
visits_are (row ∷ rows) (visit ∷ visits) = (visit.element == row.element) && visits_are rows visits

-- Whether this is a walk over rows: one after another, each as it has to be, to the first that ends it or over all rows.
unfoldable pub is_walk : {A : Type 0} → (A → ℕ) → (A → Bool) → (A → Bool) → List Row → List A → Bool
is_walk element fits ends [] [] = true
is_walk element fits ends [] (a ∷ walk) = false
is_walk element fits ends (row ∷ rows) [] = false
is_walk element fits ends (row ∷ rows) (a ∷ walk) =
    ((element a == row.element) && fits a) && (if ends a then length walk == 0 else is_walk element fits ends rows walk)

-- whether a look probes its element exactly where its bit isn't set
abbrev pub is_probed : Look → Bool
is_probed look = if look.bit then not (is_some look.probed) else is_some look.probed

-- whether these are the looks of the walk that spares set bits, and the tries of the one that spares none
abbrev pub spares : List Row → List Look → Bool
spares rows looks = is_walk (λ look. look.element) is_probed look_removed rows looks

abbrev pub spares_none : List Row → List Try → Bool
spares_none rows tries = is_walk (λ try. try.element) (λ try. true) try_removed rows tries
