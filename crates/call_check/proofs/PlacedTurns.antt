-- A turn with what came before it on its lock: the entries of its lock's history whose tickets are below its own.
use Rattle.std.proofs.Common.{◌≡◌, ℕ, zero, suc, ◌≤◌, ltb, List, [], ◌∷◌, take, refl, ap, sym, ◌∙◌, subst, arith}
use Rattle.std.specs.Prelude.{Some, slice_get}
use Rattle.std.proofs.lemmas.Bool.{cond-true, cond-false, lt-ltb, le-ltb}
use Rattle.std.proofs.lemmas.Option.{none-some, same_Some}
use Rattle.place_words.specs.declared.history.Entry.{Entry}
use Rattle.place_words.specs.declared.history.LockHistory.{LockHistory}
use Rattle.place_words.specs.Interleaving.{Drawn, turn_of}
use Rattle.place_words.specs.Named.{entries_of}
use Rattle.place_words.specs.Phases.{drawn_before}
use Rattle.place_words.specs.Tickets as by_entry
use Rattle.place_words.specs.Tickets.{AscendIn}
use Rattle.place_words.specs.Turns.{TurnAt}

-- a turn at its place in its lock's history, by its ticket
abbrev pub at_of : List LockHistory → Drawn → TurnAt
at_of histories drawn = record { turn = turn_of drawn; earlier = drawn_before drawn.entry.ticket (entries_of histories drawn.lock) }

-- Entries

none_below : (t from : ℕ) (xs : List Entry) (to : ℕ) → t ≤ from → AscendIn from (by_entry.tickets_of xs) to → drawn_before t xs ≡ []
none_below t from [] to low ascend = refl
none_below t from (x ∷ xs) to low ascend =
    let first : from ≤ x.ticket = ascend.0 in
    cond-false (ltb x.ticket t) (x ∷ drawn_before t xs) (drawn_before t xs) (le-ltb x.ticket t (omega arith)) ∙ none_below t (suc x.ticket) xs to (omega arith) ascend.1

at_least : (from : ℕ) (xs : List Entry) (to i : ℕ) (e : Entry) → AscendIn from (by_entry.tickets_of xs) to → slice_get xs i ≡ Some e → from ≤ e.ticket
at_least from [] to i e ascend at = absurd (none-some e at)
at_least from (x ∷ xs) to zero e ascend at = subst (λ (w : Entry). from ≤ w.ticket) (same_Some x e at) ascend.0
at_least from (x ∷ xs) to (suc i) e ascend at = let first : from ≤ x.ticket = ascend.0 in let rest = at_least (suc x.ticket) xs to i e ascend.1 at in omega arith

-- the entries before a place are those with lower tickets
pub take_drawn : (from : ℕ) (xs : List Entry) (to i : ℕ) (e : Entry) → AscendIn from (by_entry.tickets_of xs) to → slice_get xs i ≡ Some e → take i xs ≡ drawn_before e.ticket xs
take_drawn from [] to i e ascend at = absurd (none-some e at)
take_drawn from (x ∷ xs) to zero e ascend at =
    let same : x.ticket ≡ e.ticket = ap (λ (w : Entry). w.ticket) (same_Some x e at) in
    sym (cond-false (ltb x.ticket e.ticket) (x ∷ drawn_before e.ticket xs) (drawn_before e.ticket xs) (le-ltb x.ticket e.ticket (omega arith)) ∙ none_below e.ticket (suc x.ticket) xs to (omega arith) ascend.1)
take_drawn from (x ∷ xs) to (suc i) e ascend at =
    let later : suc x.ticket ≤ e.ticket = at_least (suc x.ticket) xs to i e ascend.1 at in
    ap (λ (l : List Entry). x ∷ l) (take_drawn (suc x.ticket) xs to i e ascend.1 at) ∙ sym (cond-true (ltb x.ticket e.ticket) (x ∷ drawn_before e.ticket xs) (drawn_before e.ticket xs) (lt-ltb x.ticket e.ticket (omega arith)))
