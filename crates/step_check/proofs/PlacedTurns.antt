-- A turn in the order of all, with what came before it on its lock there, is the turn with the entries of its lock's history whose tickets
-- are below its own.
use Rattle.std.proofs.Common.{◌≡◌, inl, ℕ, zero, suc, ◌≤◌, Bool, true, false, cond, eqb, ltb, List, [], ◌∷◌, ◌++◌, take, map, refl, ap, sym, ◌∙◌, subst, arith, append_assoc}
use Rattle.std.specs.Prelude.{filter, Some, slice_get}
use Rattle.std.proofs.lemmas.Bool.{cond-true, cond-false, lt-ltb, le-ltb}
use Rattle.std.proofs.lemmas.Option.{none-some, same_Some}
use Rattle.map_types.specs.declared.kind.DomainId.{DomainId}
use Rattle.place_words.specs.declared.history.Entry.{Entry}
use Rattle.place_words.specs.declared.history.LockHistory.{LockHistory}
use Rattle.place_words.specs.Interleaving.{Drawn, turn_of, entry_of, drawn_on, tickets_of}
use Rattle.place_words.specs.Locks.{is_same_lock}
use Rattle.place_words.specs.Named.{entries_of}
use Rattle.place_words.specs.Phases.{drawn_before}
use Rattle.place_words.specs.Tickets as by_entry
use Rattle.place_words.specs.Tickets.{AscendIn}
use Rattle.place_words.specs.Turns.{TurnAt}
use Rattle.turn_order.specs.InCalls.{Placed, place, is_of, placed_after}
use Rattle.turn_order.proofs.Members.{among_back}
use Rattle.turn_order.proofs.InOrder.{ticket_from}

-- a turn at its place in its lock's history, by its ticket
abbrev pub at_of : List LockHistory → Drawn → TurnAt
at_of histories drawn = record { turn = turn_of drawn; earlier = drawn_before drawn.entry.ticket (entries_of histories drawn.lock) }

-- Entries

none_below : (t from : ℕ) (xs : List Entry) (to : ℕ) → t ≤ from → AscendIn from (by_entry.tickets_of xs) to → drawn_before t xs ≡ []
none_below t from [] to low ascend = refl
none_below t from (x ∷ xs) to low ascend =
    let first : from ≤ x.ticket = ascend.0 in
    cond-false (ltb x.ticket t) (x ∷ drawn_before t xs) (drawn_before t xs) (le-ltb x.ticket t (omega arith)) ∙ none_below t (suc x.ticket) xs to (omega arith) ascend.1

at_least : (from : ℕ) (xs : List Entry) (to i : ℕ) (e : Entry) → AscendIn from (by_entry.tickets_of xs) to → slice_get xs i ≡ Some e → from ≤ e.ticket
at_least from [] to i e ascend at = absurd (none-some e at)
at_least from (x ∷ xs) to zero e ascend at = subst (λ (w : Entry). from ≤ w.ticket) (same_Some x e at) ascend.0
at_least from (x ∷ xs) to (suc i) e ascend at = let first : from ≤ x.ticket = ascend.0 in let rest = at_least (suc x.ticket) xs to i e ascend.1 at in omega arith

-- the entries before a place are those with lower tickets
pub take_drawn : (from : ℕ) (xs : List Entry) (to i : ℕ) (e : Entry) → AscendIn from (by_entry.tickets_of xs) to → slice_get xs i ≡ Some e → take i xs ≡ drawn_before e.ticket xs
take_drawn from [] to i e ascend at = absurd (none-some e at)
take_drawn from (x ∷ xs) to zero e ascend at =
    let same : x.ticket ≡ e.ticket = ap (λ (w : Entry). w.ticket) (same_Some x e at) in
    sym (cond-false (ltb x.ticket e.ticket) (x ∷ drawn_before e.ticket xs) (drawn_before e.ticket xs) (le-ltb x.ticket e.ticket (omega arith)) ∙ none_below e.ticket (suc x.ticket) xs to (omega arith) ascend.1)
take_drawn from (x ∷ xs) to (suc i) e ascend at =
    let later : suc x.ticket ≤ e.ticket = at_least (suc x.ticket) xs to i e ascend.1 at in
    ap (λ (l : List Entry). x ∷ l) (take_drawn (suc x.ticket) xs to i e ascend.1 at) ∙ sym (cond-true (ltb x.ticket e.ticket) (x ∷ drawn_before e.ticket xs) (drawn_before e.ticket xs) (lt-ltb x.ticket e.ticket (omega arith)))

-- Turns in order

abbrev below_on : ℕ → DomainId → List Drawn → List Entry
below_on t lock turns = drawn_before t (map entry_of (drawn_on lock turns))

none_on : (t : ℕ) (lock : DomainId) (from : ℕ) (xs : List Drawn) (to : ℕ) → t ≤ from → AscendIn from (tickets_of xs) to → below_on t lock xs ≡ []
none_on t lock from [] to low ascend = refl
none_on t lock from (x ∷ xs) to low ascend = let first : from ≤ x.entry.ticket = ascend.0 in by (is_same_lock x.lock lock) (le-ltb x.entry.ticket t (omega arith)) (none_on t lock (suc x.entry.ticket) xs to (omega arith) ascend.1)
  where
    by : (b : Bool) → ltb x.entry.ticket t ≡ false → below_on t lock xs ≡ [] → drawn_before t (map entry_of (cond b (x ∷ drawn_on lock xs) (drawn_on lock xs))) ≡ []
    by true past rest = cond-false (ltb x.entry.ticket t) (x.entry ∷ below_on t lock xs) (below_on t lock xs) past ∙ rest
    by false past rest = rest

-- before a turn on its lock are those with lower tickets
before_on : (lock : DomainId) (from : ℕ) (before : List Drawn) (x : Drawn) (later : List Drawn) (to : ℕ) → AscendIn from (tickets_of (before ++ x ∷ later)) to
    → below_on x.entry.ticket lock (before ++ x ∷ later) ≡ map entry_of (drawn_on lock before)
before_on lock from [] x later to ascend = none_on x.entry.ticket lock x.entry.ticket (x ∷ later) to (omega arith) (omega arith, ascend.1)
before_on lock from (b ∷ before) x later to ascend =
    let above : suc b.entry.ticket ≤ x.entry.ticket = ticket_from (suc b.entry.ticket) (before ++ x ∷ later) to x ascend.1 (among_back x before (x ∷ later) (inl refl)) in
    by (is_same_lock b.lock lock) (lt-ltb b.entry.ticket x.entry.ticket (omega arith)) (before_on lock (suc b.entry.ticket) before x later to ascend.1)
  where
    by : (c : Bool) → ltb b.entry.ticket x.entry.ticket ≡ true → below_on x.entry.ticket lock (before ++ x ∷ later) ≡ map entry_of (drawn_on lock before)
        → drawn_before x.entry.ticket (map entry_of (cond c (b ∷ drawn_on lock (before ++ x ∷ later)) (drawn_on lock (before ++ x ∷ later)))) ≡ map entry_of (cond c (b ∷ drawn_on lock before) (drawn_on lock before))
    by true less rest =
        cond-true (ltb b.entry.ticket x.entry.ticket) (b.entry ∷ below_on x.entry.ticket lock (before ++ x ∷ later)) (below_on x.entry.ticket lock (before ++ x ∷ later)) less
        ∙ ap (λ (l : List Entry). b.entry ∷ l) rest
    by false less rest = rest

-- the turns of a call, with what came before each
pub placed_turns : (histories : List LockHistory) (n number : ℕ) (before later : List Drawn) → AscendIn 0 (tickets_of (before ++ later)) n → ((lock : DomainId) → map entry_of (drawn_on lock (before ++ later)) ≡ entries_of histories lock)
    → map (λ (placed : Placed). placed.at) (filter (is_of number) (placed_after before later)) ≡ map (at_of histories) (filter (λ (drawn : Drawn). eqb drawn.entry.call number) later)
placed_turns histories n number before [] ascend are = refl
placed_turns histories n number before (x ∷ later) ascend are =
    let joined : (before ++ x ∷ []) ++ later ≡ before ++ x ∷ later = append_assoc before (x ∷ []) later in
    by (eqb x.entry.call number) (sym (before_on x.lock 0 before x later n ascend) ∙ ap (drawn_before x.entry.ticket) (are x.lock))
    (placed_turns histories n number (before ++ x ∷ []) later (subst (λ (l : List Drawn). AscendIn 0 (tickets_of l) n) (sym joined) ascend) (λ lock. ap (λ (l : List Drawn). map entry_of (drawn_on lock l)) joined ∙ are lock))
  where
    by : (b : Bool) → map entry_of (drawn_on x.lock before) ≡ drawn_before x.entry.ticket (entries_of histories x.lock)
        → map (λ (placed : Placed). placed.at) (filter (is_of number) (placed_after (before ++ x ∷ []) later)) ≡ map (at_of histories) (filter (λ (drawn : Drawn). eqb drawn.entry.call number) later)
        → map (λ (placed : Placed). placed.at) (cond b (place before x ∷ filter (is_of number) (placed_after (before ++ x ∷ []) later)) (filter (is_of number) (placed_after (before ++ x ∷ []) later)))
        ≡ map (at_of histories) (cond b (x ∷ filter (λ (drawn : Drawn). eqb drawn.entry.call number) later) (filter (λ (drawn : Drawn). eqb drawn.entry.call number) later))
    by true earlier rest =
        ap (λ (l : List Entry). (record { turn = turn_of x; earlier = l }) ∷ map (λ (placed : Placed). placed.at) (filter (is_of number) (placed_after (before ++ x ∷ []) later))) earlier
        ∙ ap (λ (l : List TurnAt). at_of histories x ∷ l) rest
    by false earlier rest = rest
