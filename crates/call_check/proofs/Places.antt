-- Where among the histories that of a lock stands.
use Rattle.std.proofs.Common.{◌≡◌, ℕ, zero, suc, ◌+◌, ◌<◌, ◌≤◌, Bool, true, false, cond, List, [], ◌∷◌, length, get_or, map, Option, Some, None, refl, ap, sym, ◌∙◌, subst, arith}
use Rattle.std.specs.Prelude.{filter, option_map, slice_get, IsTrue}
use Rattle.std.specs.List.{range_with_len}
use Rattle.std.proofs.lemmas.List.FromFn.{get_or-map-range_with_len, length-map-range_with_len, length-range_with_len}
use Rattle.std.proofs.lemmas.List.Sums.{count_by-le-length, length-filter}
use Rattle.std.proofs.lemmas.Option.{none-some, same_Some, slice_get-map, slice_get_within}
use Rattle.map_types.specs.declared.attr.Shape.{Shape}
use Rattle.map_types.specs.declared.kind.DomainId.{DomainId}
use Rattle.place_words.specs.declared.history.LockHistory.{LockHistory}
use Rattle.place_words.specs.Locks.{is_lock, lock_count, lock_named, lock_number}
use Rattle.place_words.proofs.LockLemmas.{named_by_number, number_within}
use Rattle.map_report.specs.Record.{entries_of, locks_of}
use Rattle.record_shape.specs.WellShaped.{lock_of}
use Rattle.record_shape.proofs.HistoriesOf.{histories_differ, own_entries}
use Rattle.call_check.specs.StrandPlaces.{place_of, places_of}

one_more : (test : ℕ → Bool) (from n : ℕ) → length (filter test (range_with_len from (suc n))) ≡ length (filter test (range_with_len from n)) + cond (test (from + n)) 1 0
one_more test from zero = let same : from + 0 ≡ from = omega arith in by (test from) ∙ ap (λ (k : ℕ). 0 + cond (test k) 1 0) (sym same)
  where
    by : (b : Bool) → length (cond b (from ∷ []) []) ≡ 0 + cond b 1 0
    by true = omega arith
    by false = omega arith
one_more test from (suc n) = let same : (from + 1) + n ≡ from + suc n = omega arith in by (test from) (subst (λ (k : ℕ). length (filter test (range_with_len (from + 1) (suc n))) ≡ length (filter test (range_with_len (from + 1) n)) + cond (test k) 1 0) same (one_more test (from + 1) n))
  where
    by : (b : Bool) → length (filter test (range_with_len (from + 1) (suc n))) ≡ length (filter test (range_with_len (from + 1) n)) + cond (test (from + suc n)) 1 0
        → length (cond b (from ∷ filter test (range_with_len (from + 1) (suc n))) (filter test (range_with_len (from + 1) (suc n))))
        ≡ length (cond b (from ∷ filter test (range_with_len (from + 1) n)) (filter test (range_with_len (from + 1) n))) + cond (test (from + suc n)) 1 0
    by true rest = omega (arith, rest)
    by false rest = rest

-- the lock of one more number
pub place_more : (shape : Shape) (n : ℕ) → place_of shape (n + 1) ≡ place_of shape n + cond (is_lock shape (lock_named shape n)) 1 0
place_more shape n =
    let next : n + 1 ≡ suc n = omega arith in
    let same : 0 + n ≡ n = omega arith in
    ap (place_of shape) next ∙ (one_more (λ k. is_lock shape (lock_named shape k)) 0 n ∙ ap (λ (k : ℕ). place_of shape n + cond (is_lock shape (lock_named shape k)) 1 0) same)

left_there : (test : ℕ → Bool) (from n k : ℕ) → k < n → test (from + k) ≡ true → slice_get (filter test (range_with_len from n)) (length (filter test (range_with_len from k))) ≡ Some (from + k)
left_there test from zero k less passes = absurd (omega (arith, less))
left_there test from (suc n) zero less passes =
    let same : from + 0 ≡ from = omega arith in
    ap (λ (b : Bool). slice_get (cond b (from ∷ filter test (range_with_len (from + 1) n)) (filter test (range_with_len (from + 1) n))) 0) (ap test (sym same) ∙ passes) ∙ ap Some (sym same)
left_there test from (suc n) (suc k) less passes =
    let same : (from + 1) + k ≡ from + suc k = omega arith in
    by (test from) (subst (λ (j : ℕ). slice_get (filter test (range_with_len (from + 1) n)) (length (filter test (range_with_len (from + 1) k))) ≡ Some j) same (left_there test (from + 1) n k (omega (arith, less)) (ap test same ∙ passes)))
  where
    by : (b : Bool) → slice_get (filter test (range_with_len (from + 1) n)) (length (filter test (range_with_len (from + 1) k))) ≡ Some (from + suc k)
        → slice_get (cond b (from ∷ filter test (range_with_len (from + 1) n)) (filter test (range_with_len (from + 1) n))) (length (cond b (from ∷ filter test (range_with_len (from + 1) k)) (filter test (range_with_len (from + 1) k)))) ≡ Some (from + suc k)
    by true rest = rest
    by false rest = rest

-- The history of a lock, at the place of its number.
pub record HistoryAt (histories : List LockHistory) (place : ℕ) (lock : DomainId) : Type 0 where
  pub history : LockHistory
  pub there : slice_get histories place ≡ Some history
  pub lock_is : history.lock ≡ lock
  pub entries_are : entries_of histories lock ≡ history.entries
  pub within : place < length histories

pub history_at : (shape : Shape) (histories : List LockHistory) → map lock_of histories ≡ locks_of shape → (lock : DomainId) → IsTrue (is_lock shape lock)
    → HistoryAt histories (place_of shape (lock_number shape lock)) lock
history_at shape histories locks lock is =
    let number : ℕ = lock_number shape lock in
    let named : lock_named shape number ≡ lock = named_by_number shape lock is in
    let zeroed : 0 + number ≡ number = omega arith in
    let left : slice_get (filter (λ k. is_lock shape (lock_named shape k)) (range_with_len 0 (lock_count shape))) (place_of shape number) ≡ Some number =
    subst (λ (j : ℕ). slice_get (filter (λ k. is_lock shape (lock_named shape k)) (range_with_len 0 (lock_count shape))) (place_of shape number) ≡ Some j) zeroed
    (left_there (λ k. is_lock shape (lock_named shape k)) 0 (lock_count shape) number (number_within shape lock is) (ap (λ (j : ℕ). is_lock shape (lock_named shape j)) zeroed ∙ (ap (is_lock shape) named ∙ is))) in
    let at_lock : slice_get (map lock_of histories) (place_of shape number) ≡ Some lock =
    ap (λ (ls : List DomainId). slice_get ls (place_of shape number)) locks
    ∙ (slice_get-map (lock_named shape) (filter (λ k. is_lock shape (lock_named shape k)) (range_with_len 0 (lock_count shape))) (place_of shape number) ∙ (ap (option_map (lock_named shape)) left ∙ ap Some named)) in
    by (slice_get histories (place_of shape number)) refl (sym (slice_get-map lock_of histories (place_of shape number)) ∙ at_lock)
  where
    by : (o : Option LockHistory) → slice_get histories (place_of shape (lock_number shape lock)) ≡ o → option_map lock_of o ≡ Some lock → HistoryAt histories (place_of shape (lock_number shape lock)) lock
    by None at is_at = absurd (none-some lock is_at)
    by (Some history) at is_at =
        let one : history.lock ≡ lock = same_Some history.lock lock is_at in
        record {
          history = history;
          there = at;
          lock_is = one;
          entries_are = subst (λ (l : DomainId). entries_of histories l ≡ history.entries) one (own_entries histories (histories_differ shape histories locks) (place_of shape (lock_number shape lock)) history at);
          within = slice_get_within histories (place_of shape (lock_number shape lock)) history at;
        }

-- what stands in the table
pub places_counted : (shape : Shape) (places : List ℕ) → places ≡ places_of shape → length places ≡ lock_count shape
places_counted shape places are = ap length are ∙ length-map-range_with_len (place_of shape) 0 (lock_count shape)

pub place_read : (shape : Shape) (places : List ℕ) (number : ℕ) → places ≡ places_of shape → number < lock_count shape → get_or places number 0 ≡ place_of shape number
place_read shape places number are less =
    ap (λ (ps : List ℕ). get_or ps number 0) are ∙ get_or-map-range_with_len (place_of shape) 0 (lock_count shape) number number 0 less (omega arith)

pub place_low : (shape : Shape) (number : ℕ) → place_of shape number ≤ number
place_low shape number =
    omega (arith, length-filter (λ k. is_lock shape (lock_named shape k)) (range_with_len 0 number), count_by-le-length (λ k. is_lock shape (lock_named shape k)) (range_with_len 0 number), length-range_with_len 0 number)
