-- Changes one after another, as a loop does them.
use Rattle.std.proofs.Common.{◌≡◌, ℕ, ◌+◌, ◌<◌, ◌≤◌, Bool, true, false, List, [], ◌∷◌, ◌++◌, map, drop, get_or, length, ap, sym, subst}
use Rattle.std.proofs.lemmas.List.{drop_more, drop_all}
use Rattle.place_words.specs.Interleaving.{Event, does}
use Rattle.step_check.specs.WordsView.{WordsView, AreWords}
use Rattle.step_check.specs.Ran.{RanAll, RanNot, Ran, step_of}
use Rattle.step_check.specs.declared.change.Change.{Change}
use Rattle.step_check.proofs.RunLemmas.{ran_none, ran_then, ran_not}

-- the events of the changes from an index on
abbrev pub events_from : ℕ → ℕ → List Change → List Event
events_from cpu i changes = map does (map (step_of cpu) (drop i changes))

more : (cpu i : ℕ) (changes : List Change) (d : Change) → i < length changes → events_from cpu i changes ≡ (does (step_of cpu (get_or changes i d)) ∷ []) ++ events_from cpu (i + 1) changes
more cpu i changes d within = ap (λ (l : List Change). map does (map (step_of cpu) l)) (drop_more changes i d within)

pub change_fails : (before now : WordsView) (cpu i : ℕ) (changes : List Change) (d : Change) (answer : Bool) → i < length changes → Ran before (does (step_of cpu (get_or changes i d)) ∷ []) now answer → answer ≡ false → RanNot before (events_from cpu i changes) now
change_fails before now cpu i changes d answer within ran fails =
    subst (λ (es : List Event). RanNot before es now) (sym (more cpu i changes d within))
    (ran_not before now (does (step_of cpu (get_or changes i d)) ∷ []) (events_from cpu (i + 1) changes) (subst (Ran before (does (step_of cpu (get_or changes i d)) ∷ []) now) fails ran))

pub change_done : (before middle now : WordsView) (cpu i : ℕ) (changes : List Change) (d : Change) (first answer : Bool) → i < length changes → Ran before (does (step_of cpu (get_or changes i d)) ∷ []) middle first → first ≡ true → Ran middle (events_from cpu (i + 1) changes) now answer → Ran before (events_from cpu i changes) now answer
change_done before middle now cpu i changes d first answer within ran holds rest =
    subst (λ (es : List Event). Ran before es now answer) (sym (more cpu i changes d within))
    (ran_then before middle now (does (step_of cpu (get_or changes i d)) ∷ []) (events_from cpu (i + 1) changes) answer (subst (Ran before (does (step_of cpu (get_or changes i d)) ∷ []) middle) holds ran) rest)

pub changes_end : (before : WordsView) (cpu i : ℕ) (changes : List Change) → AreWords before → length changes ≤ i → RanAll before (events_from cpu i changes) before
changes_end before cpu i changes are past =
    subst (λ (l : List Change). RanAll before (map does (map (step_of cpu) l)) before) (sym (drop_all i changes past)) (ran_none before are)

pub are_after : (before now : WordsView) (events : List Event) (answer : Bool) → Ran before events now answer → AreWords now
are_after before now events true ran = ran.are
are_after before now events false ran = ran.are
