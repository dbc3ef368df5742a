-- The histories of a record: each lock of the map has one, and their tickets were drawn once each.
use Rattle.std.proofs.Common.{◌≡◌, ℕ, zero, suc, ◌+◌, ◌<◌, Bool, true, false, ◌||◌, cond, List, [], ◌∷◌, map, refl, ap, sym, ◌∙◌, subst, arith}
use Rattle.std.specs.Prelude.{All, filter}
use Rattle.std.specs.List.{range_with_len}
use Rattle.std.proofs.lemmas.Bool.{ne_eqb}
use Rattle.std.proofs.lemmas.List.Elements.{All-nil, All-head, All-tail}
use Rattle.map_types.specs.declared.attr.Shape.{Shape}
use Rattle.map_types.specs.declared.kind.DomainId.{DomainId}
use Rattle.map_script.specs.declared.script.Script.{Script}
use Rattle.place_words.specs.declared.history.Entry.{Entry}
use Rattle.place_words.specs.declared.history.LockHistory.{LockHistory}
use Rattle.place_words.specs.Histories.{AllAllowed, IsLegal}
use Rattle.place_words.specs.Locks.{is_lock, is_same_lock, lock_named, lock_count}
use Rattle.place_words.specs.Named.{entries_of}
use Rattle.place_words.specs.Tickets as by_entry
use Rattle.place_words.specs.Tickets.{AscendIn}
use Rattle.place_words.proofs.LockLemmas.{one_lock}
use Rattle.map_report.specs.declared.record.RunRecord.{RunRecord}
use Rattle.map_report.specs.Record.{IsRecord, locks_of}
use Rattle.map_report.proofs.LogTickets.{same_number}
use Rattle.turn_order.specs.OrderLaws.{turn_count, AreDrawnOnce, AscendInEach, AreApart, locks_in, is_one_of}
use Rattle.turn_order.proofs.LockOrder.{entries_ascend}

-- The locks of a map

-- each number above names another lock
none_above : (shape : Shape) (k from n : ℕ) → k < from → is_one_of (map (lock_named shape) (filter (λ j. is_lock shape (lock_named shape j)) (range_with_len from n))) (lock_named shape k) ≡ false
none_above shape k from zero below = refl
none_above shape k from (suc n) below = by (is_lock shape (lock_named shape from)) (same_number shape from k ∙ ne_eqb from k (λ is. absurd (let same : from ≡ k = is in omega arith))) (none_above shape k (from + 1) n (omega arith))
  where
    by : (b : Bool) → is_same_lock (lock_named shape from) (lock_named shape k) ≡ false
        → is_one_of (map (lock_named shape) (filter (λ j. is_lock shape (lock_named shape j)) (range_with_len (from + 1) n))) (lock_named shape k) ≡ false
        → is_one_of (map (lock_named shape) (cond b (from ∷ filter (λ j. is_lock shape (lock_named shape j)) (range_with_len (from + 1) n)) (filter (λ j. is_lock shape (lock_named shape j)) (range_with_len (from + 1) n)))) (lock_named shape k) ≡ false
    by true other rest = ap (λ (c : Bool). c || is_one_of (map (lock_named shape) (filter (λ j. is_lock shape (lock_named shape j)) (range_with_len (from + 1) n))) (lock_named shape k)) other ∙ rest
    by false other rest = rest

apart_from : (shape : Shape) (from n : ℕ) → AreApart (map (lock_named shape) (filter (λ j. is_lock shape (lock_named shape j)) (range_with_len from n)))
apart_from shape from zero = tt
apart_from shape from (suc n) = by (is_lock shape (lock_named shape from)) (none_above shape from (from + 1) n (omega arith)) (apart_from shape (from + 1) n)
  where
    by : (b : Bool) → is_one_of (map (lock_named shape) (filter (λ j. is_lock shape (lock_named shape j)) (range_with_len (from + 1) n))) (lock_named shape from) ≡ false
        → AreApart (map (lock_named shape) (filter (λ j. is_lock shape (lock_named shape j)) (range_with_len (from + 1) n)))
        → AreApart (map (lock_named shape) (cond b (from ∷ filter (λ j. is_lock shape (lock_named shape j)) (range_with_len (from + 1) n)) (filter (λ j. is_lock shape (lock_named shape j)) (range_with_len (from + 1) n))))
    by true none rest = (none, rest)
    by false none rest = rest

pub locks_apart : (shape : Shape) → AreApart (locks_of shape)
locks_apart shape = apart_from shape 0 (lock_count shape)

lock_among : (shape : Shape) (lock : DomainId) (ks : List ℕ) → is_one_of (map (lock_named shape) (filter (λ j. is_lock shape (lock_named shape j)) ks)) lock ≡ true → is_lock shape lock ≡ true
lock_among shape lock [] one = absurd cc
lock_among shape lock (k ∷ ks) one = by (is_lock shape (lock_named shape k)) refl one (lock_among shape lock ks)
  where
    by : (b : Bool) → is_lock shape (lock_named shape k) ≡ b
        → is_one_of (map (lock_named shape) (cond b (k ∷ filter (λ j. is_lock shape (lock_named shape j)) ks) (filter (λ j. is_lock shape (lock_named shape j)) ks))) lock ≡ true
        → (is_one_of (map (lock_named shape) (filter (λ j. is_lock shape (lock_named shape j)) ks)) lock ≡ true → is_lock shape lock ≡ true) → is_lock shape lock ≡ true
    by true is one rest = either (is_same_lock (lock_named shape k) lock) refl one
      where
        either : (c : Bool) → is_same_lock (lock_named shape k) lock ≡ c → (c || is_one_of (map (lock_named shape) (filter (λ j. is_lock shape (lock_named shape j)) ks)) lock) ≡ true → is_lock shape lock ≡ true
        either true same either_one = sym (ap (is_lock shape) (one_lock (lock_named shape k) lock same)) ∙ is
        either false other either_one = rest either_one
    by false is one rest = rest one

pub lock_there : (shape : Shape) (lock : DomainId) → is_one_of (locks_of shape) lock ≡ true → is_lock shape lock ≡ true
lock_there shape lock one = lock_among shape lock (range_with_len 0 (lock_count shape)) one

-- what holds of each history holds of each lock's entries, none where it has no history
legal_of : (shape : Shape) (histories : List LockHistory) → All (λ (history : LockHistory). IsLegal shape history.lock history.entries) histories → (lock : DomainId) → IsLegal shape lock (entries_of histories lock)
unfolding AllAllowed
legal_of shape [] legal lock = tt
legal_of shape (history ∷ histories) legal lock =
    by (is_same_lock history.lock lock) refl (All-head (λ (h : LockHistory). IsLegal shape h.lock h.entries) history histories legal) (legal_of shape histories (All-tail (λ (h : LockHistory). IsLegal shape h.lock h.entries) history histories legal) lock)
  where
    by : (b : Bool) → is_same_lock history.lock lock ≡ b → IsLegal shape history.lock history.entries → IsLegal shape lock (entries_of histories lock) → IsLegal shape lock (cond b history.entries (entries_of histories lock))
    by true same here rest = subst (λ (l : DomainId). IsLegal shape l history.entries) (one_lock history.lock lock same) here
    by false other here rest = rest

pub each_of : (P : Entry → Type 0) (histories : List LockHistory) → All (λ (history : LockHistory). All P history.entries) histories → (lock : DomainId) → All P (entries_of histories lock)
each_of P [] all lock = All-nil P
each_of P (history ∷ histories) all lock =
    by (is_same_lock history.lock lock) (All-head (λ (h : LockHistory). All P h.entries) history histories all) (each_of P histories (All-tail (λ (h : LockHistory). All P h.entries) history histories all) lock)
  where
    by : (b : Bool) → All P history.entries → All P (entries_of histories lock) → All P (cond b history.entries (entries_of histories lock))
    by true here rest = here
    by false here rest = rest

module _ (script : Script) (kept : RunRecord) (record_is : IsRecord script kept) where
  pub record_once : AreDrawnOnce kept.histories
  record_once = record_is.tickets.each_once

  pub record_ascends : AscendInEach kept.histories
  record_ascends = record_is.tickets.in_histories

  pub record_apart : AreApart (locks_in kept.histories)
  record_apart = subst AreApart (sym record_is.locks) (locks_apart script.shape)

  -- a lock that has a history is one of the map
  pub record_lock : (lock : DomainId) → is_one_of (locks_in kept.histories) lock ≡ true → is_lock script.shape lock ≡ true
  record_lock lock one = lock_there script.shape lock (subst (λ (l : List DomainId). is_one_of l lock ≡ true) record_is.locks one)

  pub record_legal : (lock : DomainId) → IsLegal script.shape lock (entries_of kept.histories lock)
  record_legal lock = legal_of script.shape kept.histories record_is.legal lock

  pub record_ascend : (lock : DomainId) → AscendIn 0 (by_entry.tickets_of (entries_of kept.histories lock)) (turn_count kept.histories)
  record_ascend lock = entries_ascend kept.histories (turn_count kept.histories) record_ascends lock
