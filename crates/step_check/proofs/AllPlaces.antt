-- The places of all turns, history by history.
use Rattle.std.proofs.Common.{◌≡◌, ℕ, ◌+◌, ◌<◌, ◌≤◌, All, List, [], ◌∷◌, ◌++◌, length, get_or, drop, map, refl, ap, ◌∙◌, sym, subst, ⊎_elim}
use Rattle.std.specs.List.{flat_map}
use Rattle.std.proofs.lemmas.Bool.{cases_lt}
use Rattle.std.proofs.lemmas.List.{append_assoc, append-nil, map-append, drop_more, drop_all}
use Rattle.std.proofs.lemmas.List.Elements.{All-nil, All-cons, All-append}
use Rattle.place_words.specs.declared.history.Entry.{Entry}
use Rattle.place_words.specs.declared.history.LockHistory.{LockHistory}
use Rattle.place_words.specs.Interleaving.{Drawn}
use Rattle.turn_order.specs.Ordered.{all_drawn, drawn_in}
use Rattle.step_check.specs.declared.places.TurnPlace.{TurnPlace}
use Rattle.step_check.specs.Places.{IsPlace, no_entry, no_history, places_in, turn_at, turns_at}

-- the places of these histories, the first of which has this number
abbrev pub places_from : ℕ → List LockHistory → List TurnPlace
places_from number [] = []
places_from number (history ∷ histories) = places_in number 0 history.entries ++ places_from (number + 1) histories

-- what stands at a place, where this is left from there on
pub record LeftAt {X : Type 0} (xs : List X) (i : ℕ) (none x : X) (rest : List X) : Type 0 where
  pub within : i < length xs
  pub here : get_or xs i none ≡ x
  pub after : drop (i + 1) xs ≡ rest

pub left_at : {X : Type 0} (xs : List X) (i : ℕ) (none x : X) (rest : List X) → drop i xs ≡ x ∷ rest → LeftAt xs i none x rest
left_at {X} xs i none x rest left =
    ⊎_elim
    (λ (less : i < length xs).
    let more : drop i xs ≡ get_or xs i none ∷ drop (i + 1) xs = drop_more xs i none less in
    record { within = less; here = cc; after = cc })
    (λ (past : length xs ≤ i). let nothing : drop i xs ≡ [] = drop_all i xs past in absurd (cc))
    (cases_lt i (length xs))

-- a loop that pushes one place after another
pub place_more : (history index : ℕ) (entries : List Entry) (was now total : List TurnPlace) → index < length entries → now ≡ was ++ record { history = history; index = index } ∷ []
    → was ++ places_in history index (drop index entries) ≡ total → now ++ places_in history (index + 1) (drop (index + 1) entries) ≡ total
place_more history index entries was now total less pushed before =
    let rest : List TurnPlace = places_in history (index + 1) (drop (index + 1) entries) in
    let place : TurnPlace = record { history = history; index = index } in
    ap (λ (l : List TurnPlace). l ++ rest) pushed
    ∙ (append_assoc was (place ∷ []) rest
    ∙ (ap (λ (l : List Entry). was ++ places_in history index l) (sym (drop_more entries index no_entry less)) ∙ before))

-- and those of one history after another
pub history_more : (number : ℕ) (histories : List LockHistory) (entries : List Entry) (was now total : List TurnPlace) → number < length histories → entries ≡ (get_or histories number no_history).entries
    → now ≡ was ++ places_in number 0 entries → was ++ places_from number (drop number histories) ≡ total → now ++ places_from (number + 1) (drop (number + 1) histories) ≡ total
history_more number histories entries was now total less are pushed before =
    let rest : List TurnPlace = places_from (number + 1) (drop (number + 1) histories) in
    ap (λ (l : List TurnPlace). l ++ rest) pushed
    ∙ (append_assoc was (places_in number 0 entries) rest
    ∙ (ap (λ (l : List Entry). was ++ (places_in number 0 l ++ rest)) are
    ∙ (ap (λ (l : List LockHistory). was ++ places_from number l) (sym (drop_more histories number no_history less)) ∙ before)))

-- These places are those of these turns.
pub record AreThose (histories : List LockHistory) (places : List TurnPlace) (turns : List Drawn) : Type 0 where
  pub named : turns_at histories places ≡ turns
  pub real : All (IsPlace histories) places

abbrev drawn : LockHistory → Entry → Drawn
drawn history entry = record { lock = history.lock; entry = entry }

of_history : (histories : List LockHistory) (number : ℕ) (history : LockHistory) (index : ℕ) (rest : List Entry) → number < length histories → get_or histories number no_history ≡ history → drop index history.entries ≡ rest
    → AreThose histories (places_in number index rest) (map (drawn history) rest)
of_history histories number history index [] within at left = record { named = refl; real = All-nil (IsPlace histories) }
of_history histories number history index (entry ∷ rest) within at left =
    let here : LeftAt history.entries index no_entry entry rest = left_at history.entries index no_entry entry rest left in
    let more : AreThose histories (places_in number (index + 1) rest) (map (drawn history) rest) = of_history histories number history (index + 1) rest within at here.after in
    let place : TurnPlace = record { history = number; index = index } in
    let first : turn_at histories place ≡ drawn history entry =
    ap (λ (h : LockHistory). drawn h (get_or h.entries index no_entry)) at ∙ ap (drawn history) here.here in
    let real : IsPlace histories place = record {
      history = within;
      index = subst (λ (h : LockHistory). index < length h.entries) (sym at) here.within;
    } in
    record {
      named = λ j. first j ∷ more.named j;
      real = All-cons (IsPlace histories) place (places_in number (index + 1) rest) real more.real;
    }

of_all : (histories : List LockHistory) (number : ℕ) (rest : List LockHistory) → drop number histories ≡ rest → AreThose histories (places_from number rest) (flat_map drawn_in rest)
of_all histories number [] left = record { named = refl; real = All-nil (IsPlace histories) }
of_all histories number (history ∷ rest) left =
    let here : LeftAt histories number no_history history rest = left_at histories number no_history history rest left in
    let mine : AreThose histories (places_in number 0 history.entries) (map (drawn history) history.entries) = of_history histories number history 0 history.entries here.within here.here refl in
    let more : AreThose histories (places_from (number + 1) rest) (flat_map drawn_in rest) = of_all histories (number + 1) rest here.after in
    record {
      named = map-append (turn_at histories) (places_in number 0 history.entries) (places_from (number + 1) rest) ∙ (λ j. mine.named j ++ more.named j);
      real = All-append (IsPlace histories) (places_in number 0 history.entries) (places_from (number + 1) rest) mine.real more.real;
    }

pub all_those : (histories : List LockHistory) (places : List TurnPlace) → places ≡ places_from 0 histories → AreThose histories places (all_drawn histories)
all_those histories places are = subst (λ (ps : List TurnPlace). AreThose histories ps (all_drawn histories)) (sym are) (of_all histories 0 histories refl)

pub pushed_all : (histories : List LockHistory) (number : ℕ) (places : List TurnPlace) → length histories ≤ number → places ++ places_from number (drop number histories) ≡ places_from 0 histories → places ≡ places_from 0 histories
pushed_all histories number places past before =
    sym (append-nil places) ∙ (ap (λ (l : List LockHistory). places ++ places_from number l) (sym (drop_all number histories past)) ∙ before)
