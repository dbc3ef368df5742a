-- The turns of histories whose tickets were drawn once each: in their order the tickets are 0, 1, 2 and so on, and the turns are those of
-- all locks.
use Rattle.std.proofs.Common.{◌≡◌, inl, inr, ℕ, zero, suc, ◌+◌, ◌<◌, ◌≤◌, cond, eqb, ltb, List, [], ◌∷◌, ◌++◌, length, map, refl, ap, sym, ◌∙◌, subst, ⊎_elim, arith}
use Rattle.std.specs.Prelude.{IsPermutation, Some, slice_get}
use Rattle.std.specs.List.{flat_map, count_by, range_with_len}
use Rattle.std.proofs.lemmas.Bool.{cases_lt, lt-ltb, le-ltb, eq-eqb}
use Rattle.std.proofs.lemmas.List.{map-append}
use Rattle.std.proofs.lemmas.List.FromFn.{length-range_with_len}
use Rattle.std.proofs.lemmas.Option.{none-some, same_Some}
use Rattle.std.proofs.lemmas.List.Recursion.{is_count_by}
use Rattle.std.proofs.lemmas.List.Sorted.{sum_by-IsPermutation}
use Rattle.map_types.specs.declared.kind.DomainId.{DomainId}
use Rattle.map_types.specs.ElementLists.{one, times}
use Rattle.map_types.proofs.RowLemmas.{by_test}
use Rattle.place_words.specs.declared.history.Entry.{Entry}
use Rattle.place_words.specs.declared.history.LockHistory.{LockHistory}
use Rattle.place_words.specs.Interleaving.{Drawn, tickets_of}
use Rattle.place_words.specs.Tickets as by_entry
use Rattle.place_words.specs.Tickets.{AscendIn, all_entries}
use Rattle.place_words.proofs.Ascending.{tickets_append}
use Rattle.place_words.proofs.Permutes.{numbers_count}
use Rattle.turn_order.specs.Ordered.{drawn_in, all_drawn, with_ticket, ordered}
use Rattle.turn_order.specs.OrderLaws.{turn_count, AreDrawnOnce}
use Rattle.turn_order.proofs.Members.{IsAmong, among_flat, flat_among, among_filter, filter_among}
use Rattle.turn_order.proofs.InOrder.{range_ascends}

times_counts : (e : ℕ) (xs : List ℕ) → times e xs ≡ count_by (λ x. eqb x e) xs
times_counts e xs =
    is_count_by (times e) (λ x. eqb x e) refl (λ x ys. by_test x e (λ b. cond b (suc (times e ys)) (times e ys) ≡ cond b (1 + times e ys) (times e ys)) (λ _. omega arith) (λ _. refl)) xs

permuted_count : (n : ℕ) (es : List ℕ) → IsPermutation (range_with_len 0 n) es → (e : ℕ) → times e es ≡ one (ltb e n)
permuted_count n es permuted e =
    times_counts e es ∙ (sum_by-IsPermutation (λ x. cond (eqb x e) 1 0) (range_with_len 0 n) es permuted ∙ (sym (times_counts e (range_with_len 0 n)) ∙ numbers_count e n))

-- the tickets of all turns are those of all entries
pub entry_tickets : (lock : DomainId) (entries : List Entry) → tickets_of (map (λ (entry : Entry). record { lock = lock; entry = entry }) entries) ≡ by_entry.tickets_of entries
entry_tickets lock [] = refl
entry_tickets lock (entry ∷ entries) = ap (λ (l : List ℕ). entry.ticket ∷ l) (entry_tickets lock entries)

pub tickets_in : (history : LockHistory) → tickets_of (drawn_in history) ≡ by_entry.tickets_of history.entries
tickets_in history = entry_tickets history.lock history.entries

pub tickets_of_all : (histories : List LockHistory) → tickets_of (all_drawn histories) ≡ by_entry.tickets_of (all_entries histories)
tickets_of_all [] = refl
tickets_of_all (history ∷ histories) =
    map-append (λ (drawn : Drawn). drawn.entry.ticket) (drawn_in history) (all_drawn histories)
    ∙ (ap (λ (l : List ℕ). l ++ tickets_of (all_drawn histories)) (tickets_in history)
    ∙ (ap (λ (l : List ℕ). by_entry.tickets_of history.entries ++ l) (tickets_of_all histories) ∙ sym (tickets_append history.entries (all_entries histories))))

-- turns that have a ticket
repeated : ℕ → ℕ → List ℕ
repeated t zero = []
repeated t (suc n) = t ∷ repeated t n

with_tickets : (t : ℕ) (turns : List Drawn) → tickets_of (with_ticket t turns) ≡ repeated t (times t (tickets_of turns))
unfolding repeated
with_tickets t [] = refl
with_tickets t (x ∷ xs) =
    by_test x.entry.ticket t (λ b. tickets_of (cond b (x ∷ with_ticket t xs) (with_ticket t xs)) ≡ repeated t (cond b (suc (times t (tickets_of xs))) (times t (tickets_of xs))))
    (λ same. ap (λ (m : ℕ). m ∷ tickets_of (with_ticket t xs)) same ∙ ap (λ (l : List ℕ). t ∷ l) (with_tickets t xs))
    (λ other. with_tickets t xs)

one_with : (t : ℕ) (turns : List Drawn) → times t (tickets_of turns) ≡ 1 → tickets_of (with_ticket t turns) ≡ t ∷ []
unfolding repeated
one_with t turns once = with_tickets t turns ∙ ap (repeated t) once

in_range : (turns : List Drawn) (from n : ℕ) → ((t : ℕ) → from ≤ t → t < from + n → times t (tickets_of turns) ≡ 1)
    → tickets_of (flat_map (λ ticket. with_ticket ticket turns) (range_with_len from n)) ≡ range_with_len from n
in_range turns from zero once = refl
in_range turns from (suc n) once =
    map-append (λ (drawn : Drawn). drawn.entry.ticket) (with_ticket from turns) (flat_map (λ ticket. with_ticket ticket turns) (range_with_len (from + 1) n))
    ∙ (ap (λ (l : List ℕ). l ++ tickets_of (flat_map (λ ticket. with_ticket ticket turns) (range_with_len (from + 1) n))) (one_with from turns (once from (omega arith) (omega arith)))
    ∙ ap (λ (l : List ℕ). from ∷ l) (in_range turns (from + 1) n (λ t low high. once t (omega arith) (omega arith))))

-- a number of a range is in it
pub among_range : (t from n : ℕ) → from ≤ t → t < from + n → IsAmong t (range_with_len from n)
among_range t from zero low high = absurd (omega arith)
among_range t from (suc n) low high =
    by_test from t (λ b. IsAmong t (range_with_len from (suc n))) (λ same. inl same) (λ other. inr (among_range t (from + 1) n (omega (arith, other, low)) (omega arith)))

-- a turn's ticket stands among theirs
ticket_there : (x : Drawn) (xs : List Drawn) → IsAmong x xs → 0 < times x.entry.ticket (tickets_of xs)
ticket_there x [] there = absurd there
ticket_there x (y ∷ ys) (inl same) =
    by_test y.entry.ticket x.entry.ticket (λ b. 0 < cond b (suc (times x.entry.ticket (tickets_of ys))) (times x.entry.ticket (tickets_of ys))) (λ _. omega arith) (λ other. absurd (other (ap (λ (w : Drawn). w.entry.ticket) same)))
ticket_there x (y ∷ ys) (inr later) =
    let rest = ticket_there x ys later in
    by_test y.entry.ticket x.entry.ticket (λ b. 0 < cond b (suc (times x.entry.ticket (tickets_of ys))) (times x.entry.ticket (tickets_of ys))) (λ _. omega arith) (λ _. rest)

module _ (histories : List LockHistory) (once : AreDrawnOnce histories) where
  count_is : (t : ℕ) → times t (tickets_of (all_drawn histories)) ≡ one (ltb t (turn_count histories))
  count_is t = ap (times t) (tickets_of_all histories) ∙ permuted_count (turn_count histories) (by_entry.tickets_of (all_entries histories)) once t

  pub ordered_tickets : tickets_of (ordered histories) ≡ range_with_len 0 (turn_count histories)
  ordered_tickets = in_range (all_drawn histories) 0 (turn_count histories) (λ t low high. count_is t ∙ ap one (lt-ltb t (turn_count histories) (omega arith)))

  pub ordered_ascend : AscendIn 0 (tickets_of (ordered histories)) (turn_count histories)
  ordered_ascend =
      let end : 0 + turn_count histories ≡ turn_count histories = omega arith in
      subst (λ (l : List ℕ). AscendIn 0 l (turn_count histories)) (sym ordered_tickets) (subst (AscendIn 0 (range_with_len 0 (turn_count histories))) end (range_ascends 0 (turn_count histories)))

  ticket_below : (x : Drawn) → IsAmong x (all_drawn histories) → x.entry.ticket < turn_count histories
  ticket_below x there =
      let some = ticket_there x (all_drawn histories) there in
      let count = count_is x.entry.ticket in
      ⊎_elim (λ (less : x.entry.ticket < turn_count histories). less)
      (λ (past : turn_count histories ≤ x.entry.ticket). absurd (let none : one (ltb x.entry.ticket (turn_count histories)) ≡ 0 = ap one (le-ltb x.entry.ticket (turn_count histories) past) in omega arith))
      (cases_lt x.entry.ticket (turn_count histories))

  -- no turn is lost and none is added
  pub all_ordered : (x : Drawn) → IsAmong x (all_drawn histories) → IsAmong x (ordered histories)
  all_ordered x there =
      among_flat (λ ticket. with_ticket ticket (all_drawn histories)) x.entry.ticket x (range_with_len 0 (turn_count histories))
      (among_range x.entry.ticket 0 (turn_count histories) (omega arith) (let less = ticket_below x there in omega arith))
      (among_filter (λ (drawn : Drawn). eqb drawn.entry.ticket x.entry.ticket) x (all_drawn histories) (eq-eqb x.entry.ticket x.entry.ticket refl) there)

pub ordered_all : (histories : List LockHistory) (x : Drawn) → IsAmong x (ordered histories) → IsAmong x (all_drawn histories)
ordered_all histories x there =
    let found = flat_among (λ ticket. with_ticket ticket (all_drawn histories)) x (range_with_len 0 (turn_count histories)) there in
    (filter_among (λ (drawn : Drawn). eqb drawn.entry.ticket found.0) x (all_drawn histories) found.2).0

-- the number of turns, and the ticket at each place
as_many : (turns : List Drawn) → length (tickets_of turns) ≡ length turns
as_many [] = refl
as_many (x ∷ xs) = ap suc (as_many xs)

pub ordered_count : (histories : List LockHistory) → AreDrawnOnce histories → length (ordered histories) ≡ turn_count histories
ordered_count histories once =
    sym (as_many (ordered histories)) ∙ (ap length (ordered_tickets histories once) ∙ length-range_with_len 0 (turn_count histories))

ticket_at : (turns : List Drawn) (from n t : ℕ) (x : Drawn) → tickets_of turns ≡ range_with_len from n → slice_get turns t ≡ Some x → x.entry.ticket ≡ from + t
ticket_at [] from n t x are at = absurd (none-some x at)
ticket_at (y ∷ ys) from zero t x are at = absurd cc
ticket_at (y ∷ ys) from (suc n) zero x are at =
    let first : y.entry.ticket ≡ from = cc in
    let same : y.entry.ticket ≡ x.entry.ticket = ap (λ (w : Drawn). w.entry.ticket) (same_Some y x at) in omega arith
ticket_at (y ∷ ys) from (suc n) (suc t) x are at =
    let rest : tickets_of ys ≡ range_with_len (from + 1) n = cc in let there = ticket_at ys (from + 1) n t x rest at in omega arith

pub ticket_is_place : (histories : List LockHistory) → AreDrawnOnce histories → (t : ℕ) (x : Drawn) → slice_get (ordered histories) t ≡ Some x → x.entry.ticket ≡ t
ticket_is_place histories once t x at = let there = ticket_at (ordered histories) 0 (turn_count histories) t x (ordered_tickets histories once) at in omega arith
