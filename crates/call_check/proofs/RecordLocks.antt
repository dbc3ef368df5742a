-- The locks of a map are apart.
use Rattle.std.proofs.Common.{◌≡◌, ℕ, zero, suc, ◌+◌, ◌<◌, Bool, true, false, ◌||◌, cond, List, [], ◌∷◌, map, refl, ap, sym, ◌∙◌, arith}
use Rattle.std.specs.Prelude.{filter}
use Rattle.std.specs.List.{range_with_len}
use Rattle.std.proofs.lemmas.Bool.{ne_eqb}
use Rattle.map_types.specs.declared.attr.Shape.{Shape}
use Rattle.map_types.specs.declared.kind.DomainId.{DomainId}
use Rattle.place_words.specs.Locks.{is_lock, is_same_lock, lock_named, lock_count}
use Rattle.place_words.proofs.LockLemmas.{one_lock}
use Rattle.map_report.specs.Record.{locks_of}
use Rattle.map_report.proofs.LogTickets.{same_number}
use Rattle.turn_order.specs.OrderLaws.{AreApart, is_one_of}

-- each number above names another lock
none_above : (shape : Shape) (k from n : ℕ) → k < from → is_one_of (map (lock_named shape) (filter (λ j. is_lock shape (lock_named shape j)) (range_with_len from n))) (lock_named shape k) ≡ false
none_above shape k from zero below = refl
none_above shape k from (suc n) below = by (is_lock shape (lock_named shape from)) (same_number shape from k ∙ ne_eqb from k (λ is. absurd (let same : from ≡ k = is in omega arith))) (none_above shape k (from + 1) n (omega arith))
  where
    by : (b : Bool) → is_same_lock (lock_named shape from) (lock_named shape k) ≡ false
        → is_one_of (map (lock_named shape) (filter (λ j. is_lock shape (lock_named shape j)) (range_with_len (from + 1) n))) (lock_named shape k) ≡ false
        → is_one_of (map (lock_named shape) (cond b (from ∷ filter (λ j. is_lock shape (lock_named shape j)) (range_with_len (from + 1) n)) (filter (λ j. is_lock shape (lock_named shape j)) (range_with_len (from + 1) n)))) (lock_named shape k) ≡ false
    by true other rest = ap (λ (c : Bool). c || is_one_of (map (lock_named shape) (filter (λ j. is_lock shape (lock_named shape j)) (range_with_len (from + 1) n))) (lock_named shape k)) other ∙ rest
    by false other rest = rest

apart_from : (shape : Shape) (from n : ℕ) → AreApart (map (lock_named shape) (filter (λ j. is_lock shape (lock_named shape j)) (range_with_len from n)))
apart_from shape from zero = tt
apart_from shape from (suc n) = by (is_lock shape (lock_named shape from)) (none_above shape from (from + 1) n (omega arith)) (apart_from shape (from + 1) n)
  where
    by : (b : Bool) → is_one_of (map (lock_named shape) (filter (λ j. is_lock shape (lock_named shape j)) (range_with_len (from + 1) n))) (lock_named shape from) ≡ false
        → AreApart (map (lock_named shape) (filter (λ j. is_lock shape (lock_named shape j)) (range_with_len (from + 1) n)))
        → AreApart (map (lock_named shape) (cond b (from ∷ filter (λ j. is_lock shape (lock_named shape j)) (range_with_len (from + 1) n)) (filter (λ j. is_lock shape (lock_named shape j)) (range_with_len (from + 1) n))))
    by true none rest = (none, rest)
    by false none rest = rest

pub locks_apart : (shape : Shape) → AreApart (locks_of shape)
locks_apart shape = apart_from shape 0 (lock_count shape)

lock_among : (shape : Shape) (lock : DomainId) (ks : List ℕ) → is_one_of (map (lock_named shape) (filter (λ j. is_lock shape (lock_named shape j)) ks)) lock ≡ true → is_lock shape lock ≡ true
lock_among shape lock [] one = absurd cc
lock_among shape lock (k ∷ ks) one = by (is_lock shape (lock_named shape k)) refl one (lock_among shape lock ks)
  where
    by : (b : Bool) → is_lock shape (lock_named shape k) ≡ b
        → is_one_of (map (lock_named shape) (cond b (k ∷ filter (λ j. is_lock shape (lock_named shape j)) ks) (filter (λ j. is_lock shape (lock_named shape j)) ks))) lock ≡ true
        → (is_one_of (map (lock_named shape) (filter (λ j. is_lock shape (lock_named shape j)) ks)) lock ≡ true → is_lock shape lock ≡ true) → is_lock shape lock ≡ true
    by true is one rest = either (is_same_lock (lock_named shape k) lock) refl one
      where
        either : (c : Bool) → is_same_lock (lock_named shape k) lock ≡ c → (c || is_one_of (map (lock_named shape) (filter (λ j. is_lock shape (lock_named shape j)) ks)) lock) ≡ true → is_lock shape lock ≡ true
        either true same either_one = sym (ap (is_lock shape) (one_lock (lock_named shape k) lock same)) ∙ is
        either false other either_one = rest either_one
    by false is one rest = rest one

pub lock_there : (shape : Shape) (lock : DomainId) → is_one_of (locks_of shape) lock ≡ true → is_lock shape lock ≡ true
lock_there shape lock one = lock_among shape lock (range_with_len 0 (lock_count shape)) one
