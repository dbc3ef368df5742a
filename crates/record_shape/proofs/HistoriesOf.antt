-- The histories of a record are of the map's locks, of each one: what an entry of a lock's history tells.
use Rattle.std.proofs.Common.{◌≡◌, ℕ, zero, suc, ◌+◌, ◌<◌, Bool, true, false, cond, List, [], ◌∷◌, map, Some, refl, ap, sym, ◌∙◌, subst, ⊎_elim, arith}
use Rattle.std.specs.Prelude.{filter, option_map, slice_get, IsTrue}
use Rattle.std.specs.List.{range_with_len}
use Rattle.std.proofs.lemmas.Bool.{cases_Bool}
use Rattle.std.proofs.lemmas.Option.{none-some, same_Some, slice_get-map}
use Rattle.map_types.specs.declared.attr.Shape.{Shape}
use Rattle.map_types.specs.declared.kind.DomainId.{DomainId}
use Rattle.place_words.specs.declared.history.Entry.{Entry}
use Rattle.place_words.specs.declared.history.LockHistory.{LockHistory}
use Rattle.place_words.specs.Locks.{is_lock, is_same_lock, lock_named, lock_count}
use Rattle.place_words.specs.Named.{entries_of}
use Rattle.place_words.proofs.LockLemmas.{one_number, same_lock, one_lock, other_lock}
use Rattle.map_report.specs.Record.{locks_of}
use Rattle.record_shape.specs.Fits.{AllFit}
use Rattle.record_shape.specs.WellShaped.{lock_of}
use Rattle.record_shape.proofs.ByPlaces.{fit_at}
use Rattle.record_shape.proofs.StrandsFit.{locks_are}

-- A lock whose history has an entry has a history.
pub record IsHeld (histories : List LockHistory) (lock : DomainId) : Type 0 where
  pub place : ℕ
  pub history : LockHistory
  pub there : slice_get histories place ≡ Some history
  pub lock_is : history.lock ≡ lock
  pub entries_are : entries_of histories lock ≡ history.entries

pub is_held : (histories : List LockHistory) (lock : DomainId) (k : ℕ) (entry : Entry) → slice_get (entries_of histories lock) k ≡ Some entry
    → IsHeld histories lock
is_held [] lock k entry at = absurd (none-some entry at)
is_held (history ∷ histories) lock k entry at =
    ⊎_elim
    (λ (same : is_same_lock history.lock lock ≡ true). record {
      place = 0;
      history = history;
      there = refl;
      lock_is = one_lock history.lock lock same;
      entries_are = ap (λ (b : Bool). cond b history.entries (entries_of histories lock)) same;
    })
    (λ (other : is_same_lock history.lock lock ≡ false).
    let later : entries_of (history ∷ histories) lock ≡ entries_of histories lock =
    ap (λ (b : Bool). cond b history.entries (entries_of histories lock)) other in
    let rest : IsHeld histories lock = is_held histories lock k entry (ap (λ (es : List Entry). slice_get es k) (sym later) ∙ at) in
    record { place = suc rest.place; history = rest.history; there = rest.there; lock_is = rest.lock_is; entries_are = later ∙ rest.entries_are })
    (cases_Bool (is_same_lock history.lock lock))

-- No two of some locks are one.
abbrev pub Differ : List DomainId → Type 0
Differ [] = Unit {0}
Differ (lock ∷ locks) = AllFit (λ other. is_same_lock lock other ≡ false) locks × Differ locks

-- Then the entries of each history are those of its lock.
pub own_entries : (histories : List LockHistory) → Differ (map lock_of histories) → (h : ℕ) (history : LockHistory)
    → slice_get histories h ≡ Some history → entries_of histories history.lock ≡ history.entries
own_entries [] differ h history at = absurd (none-some history at)
own_entries (first ∷ histories) differ zero history at =
    let same : first ≡ history = same_Some first history at in
    subst (λ (now : LockHistory). entries_of (first ∷ histories) now.lock ≡ now.entries) same (ap (λ (b : Bool). cond b first.entries (entries_of histories first.lock)) (same_lock first.lock))
own_entries (first ∷ histories) differ (suc h) history at =
    let locks_at : slice_get (map lock_of histories) h ≡ Some history.lock = slice_get-map lock_of histories h ∙ ap (option_map lock_of) at in
    let other : is_same_lock first.lock history.lock ≡ false =
    fit_at (λ lock. is_same_lock first.lock lock ≡ false) (map lock_of histories) differ.0 h history.lock locks_at in
    ap (λ (b : Bool). cond b first.entries (entries_of histories history.lock)) other ∙ own_entries histories differ.1 h history at

-- The locks of a map differ, and each history's is one of them.
module _ (shape : Shape) where
  abbrev has_number : ℕ → Bool
  has_number k = is_lock shape (lock_named shape k)

  abbrev locks_from : ℕ → ℕ → List DomainId
  locks_from from n = map (lock_named shape) (filter has_number (range_with_len from n))

  later_differ : (k from n : ℕ) → k < from → AllFit (λ other. is_same_lock (lock_named shape k) other ≡ false) (locks_from from n)
  later_differ k from zero less = tt
  later_differ k from (suc n) less = by (has_number from) (later_differ k (from + 1) n (omega (arith, less)))
    where
      by : (b : Bool) → AllFit (λ other. is_same_lock (lock_named shape k) other ≡ false) (locks_from (from + 1) n)
          → AllFit (λ other. is_same_lock (lock_named shape k) other ≡ false) (map (lock_named shape) (cond b (from ∷ filter has_number (range_with_len (from + 1) n)) (filter has_number (range_with_len (from + 1) n))))
      by true rest =
          (other_lock (lock_named shape k) (lock_named shape from) (λ same. let one : k ≡ from = one_number shape k from same in absurd (omega (arith, one, less))), rest)
      by false rest = rest

  locks_differ : (from n : ℕ) → Differ (locks_from from n)
  locks_differ from zero = tt
  locks_differ from (suc n) = by (has_number from) (later_differ from (from + 1) n (omega arith)) (locks_differ (from + 1) n)
    where
      by : (b : Bool) → AllFit (λ other. is_same_lock (lock_named shape from) other ≡ false) (locks_from (from + 1) n)
          → Differ (locks_from (from + 1) n)
          → Differ (map (lock_named shape) (cond b (from ∷ filter has_number (range_with_len (from + 1) n)) (filter has_number (range_with_len (from + 1) n))))
      by true others rest = (others, rest)
      by false others rest = rest

  module _ (histories : List LockHistory) (locks : map lock_of histories ≡ locks_of shape) where
    pub histories_differ : Differ (map lock_of histories)
    histories_differ = subst Differ (sym locks) (locks_differ 0 (lock_count shape))

    pub lock_real : (h : ℕ) (history : LockHistory) → slice_get histories h ≡ Some history → IsTrue (is_lock shape history.lock)
    lock_real h history at =
        let all : AllFit (λ lock. is_lock shape lock ≡ true) (map lock_of histories) =
        subst (AllFit (λ (lock : DomainId). is_lock shape lock ≡ true)) (sym locks) (locks_are shape) in
        fit_at (λ (lock : DomainId). is_lock shape lock ≡ true) (map lock_of histories) all h history.lock (slice_get-map lock_of histories h ∙ ap (option_map lock_of) at)
