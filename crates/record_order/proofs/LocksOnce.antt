-- Each lock has one history at most, and each history is of a lock of the map.
use Rattle.std.proofs.Common.{◌≡◌, ◌≢◌, ℕ, zero, suc, ◌<◌, ◌≤◌, Bool, true, false, cond, eqb, ltb, List, [], ◌∷◌, length, map, refl, ap, sym, ◌∙◌, subst, ⊎_elim, arith, Some}
use Rattle.std.specs.Prelude.{IsTrue, filter, slice_get}
use Rattle.std.specs.List.{AllByRecursion, range_with_len}
use Rattle.std.proofs.lemmas.Bool.{cond_both, cases_Bool, ne_eqb}
use Rattle.std.proofs.lemmas.Option.{none-some, same_Some}
use Rattle.map_types.specs.declared.attr.Shape.{Shape}
use Rattle.map_types.specs.declared.kind.DomainId.{DomainId}
use Rattle.map_types.specs.ElementLists.{one, times}
use Rattle.map_types.proofs.RowLemmas.{by_test}
use Rattle.place_words.specs.declared.history.LockHistory.{LockHistory}
use Rattle.place_words.specs.declared.history.StrandStep.{StrandStep}
use Rattle.place_words.specs.Locks.{is_lock, is_same_lock, lock_named, lock_number, lock_count}
use Rattle.place_words.specs.Named.{entries_of}
use Rattle.place_words.proofs.LockLemmas.{named_by_number, number_of_named, same_lock, one_lock, other_lock}
use Rattle.place_words.proofs.Permutes.{numbers_count}
use Rattle.map_report.specs.Record.{locks_of}
use Rattle.record_order.specs.Tickets.{Stands}
use Rattle.record_order.proofs.OnceEach.{times_here}

one_most : (b : Bool) → one b ≤ 1
one_most true = omega arith
one_most false = omega arith

passing : (p : ℕ → Bool) (xs : List ℕ) → AllByRecursion (λ k. p k ≡ true) (filter p xs)
passing p [] = tt
passing p (x ∷ xs) = let rest = passing p xs in cond_both (p x) (x ∷ filter p xs) (filter p xs) (AllByRecursion (λ k. p k ≡ true)) (λ is. (is, rest)) (λ _. rest)

fewer : (p : ℕ → Bool) (e : ℕ) (xs : List ℕ) → times e (filter p xs) ≤ times e xs
fewer p e [] = omega arith
fewer p e (x ∷ xs) =
    let rest = fewer p e xs in
    cond_both (p x) (x ∷ filter p xs) (filter p xs) (λ kept. times e kept ≤ times e (x ∷ xs))
    (λ _. by_test x e (λ b. cond b (suc (times e (filter p xs))) (times e (filter p xs)) ≤ cond b (suc (times e xs)) (times e xs)) (λ _. omega arith) (λ _. rest))
    (λ _. by_test x e (λ b. times e (filter p xs) ≤ cond b (suc (times e xs)) (times e xs)) (λ _. omega arith) (λ _. rest))

pub times_tail : (e x : ℕ) (xs : List ℕ) → times e xs ≤ times e (x ∷ xs)
times_tail e x xs = by_test x e (λ b. times e xs ≤ cond b (suc (times e xs)) (times e xs)) (λ _. omega arith) (λ _. omega arith)

-- the numbers of the locks of some histories
abbrev pub lock_numbers : Shape → List LockHistory → List ℕ
lock_numbers shape [] = []
lock_numbers shape (history ∷ histories) = lock_number shape history.lock ∷ lock_numbers shape histories

abbrev pub IsReal : Shape → LockHistory → Type 0
IsReal shape history = IsTrue (is_lock shape history.lock)

pub record AreOrdered (shape : Shape) (histories : List LockHistory) : Type 0 where
  pub real : AllByRecursion (IsReal shape) histories
  pub once : (e : ℕ) → times e (lock_numbers shape histories) ≤ 1

pub behind_first : (shape : Shape) (history : LockHistory) (histories : List LockHistory) → AreOrdered shape (history ∷ histories) → AreOrdered shape histories
behind_first shape history histories are = record {
  real = are.real.1;
  once = λ e. let most = are.once e in let less = times_tail e (lock_number shape history.lock) (lock_numbers shape histories) in omega arith;
}

-- of locks of the map, two are one where their numbers are
pub same_by_number : (shape : Shape) (a b : DomainId) → IsTrue (is_lock shape a) → IsTrue (is_lock shape b) → is_same_lock a b ≡ eqb (lock_number shape a) (lock_number shape b)
same_by_number shape a b first second =
    by_test (lock_number shape a) (lock_number shape b) (λ t. is_same_lock a b ≡ t)
    (λ is. let same : a ≡ b = sym (named_by_number shape a first) ∙ (ap (lock_named shape) is ∙ named_by_number shape b second) in subst (λ (x : DomainId). is_same_lock a x ≡ true) same (same_lock a))
    (λ other. other_lock a b (λ is. other (ap (lock_number shape) is)))

named : (shape : Shape) (hs : List LockHistory) (ks : List ℕ) → map (λ (history : LockHistory). history.lock) hs ≡ map (lock_named shape) ks → AllByRecursion (λ k. is_lock shape (lock_named shape k) ≡ true) ks
    → AllByRecursion (IsReal shape) hs × (lock_numbers shape hs ≡ ks)
named shape [] [] are real = (tt, refl)
named shape [] (k ∷ ks) are real = absurd cc
named shape (h ∷ hs) [] are real = absurd cc
named shape (h ∷ hs) (k ∷ ks) are real =
    let head : h.lock ≡ lock_named shape k = cc in
    let tail : map (λ (history : LockHistory). history.lock) hs ≡ map (lock_named shape) ks = cc in
    let rest = named shape hs ks tail real.1 in
    let number : lock_number shape h.lock ≡ k = ap (lock_number shape) head ∙ number_of_named shape k in
    let more : lock_number shape h.lock ∷ lock_numbers shape hs ≡ k ∷ ks = λ i. number i ∷ rest.1 i in
    ((ap (is_lock shape) head ∙ real.0, rest.0), more)

-- the histories of a record are so
pub ordered : (shape : Shape) (hs : List LockHistory) → map (λ (history : LockHistory). history.lock) hs ≡ locks_of shape → AreOrdered shape hs
ordered shape hs are =
    let p : ℕ → Bool = λ k. is_lock shape (lock_named shape k) in
    let all : List ℕ = range_with_len 0 (lock_count shape) in
    let their = named shape hs (filter p all) are (passing p all) in
    record {
      real = their.0;
      once = λ e.
          let same = ap (times e) their.1 in
          let less = fewer p e all in
          let count = numbers_count e (lock_count shape) in
          let most = one_most (ltb e (lock_count shape)) in
          omega arith;
    }

-- an entry stands on a lock of the map that has a history
pub stands_on : (shape : Shape) (hs : List LockHistory) → AllByRecursion (IsReal shape) hs → (p : StrandStep) → Stands hs p → IsTrue (is_lock shape p.lock) × (0 < times (lock_number shape p.lock) (lock_numbers shape hs))
stands_on shape [] real p stands = absurd (omega arith)
stands_on shape (h ∷ hs) real p stands =
    let n : ℕ = lock_number shape p.lock in
    ⊎_elim
    (λ (same : is_same_lock h.lock p.lock ≡ true).
    let one : h.lock ≡ p.lock = one_lock h.lock p.lock same in (
      subst (λ (x : DomainId). IsTrue (is_lock shape x)) one real.0,
      subst (λ (x : DomainId). 0 < times (lock_number shape x) (lock_number shape h.lock ∷ lock_numbers shape hs)) one (let here = times_here (lock_number shape h.lock) (lock_numbers shape hs) in omega arith),
    ))
    (λ (other : is_same_lock h.lock p.lock ≡ false).
    let there = stands_on shape hs real.1 p (subst (λ (b : Bool). p.index < length (cond b h.entries (entries_of hs p.lock))) other stands) in
    let some = there.1 in
    let less = times_tail n (lock_number shape h.lock) (lock_numbers shape hs) in
    (there.0, omega arith))
    (cases_Bool (is_same_lock h.lock p.lock))

-- the history before isn't of the lock of one behind
pub other_before : (shape : Shape) (h : LockHistory) (hs : List LockHistory) → AreOrdered shape (h ∷ hs) → (lock : DomainId) → IsTrue (is_lock shape lock) → 0 < times (lock_number shape lock) (lock_numbers shape hs)
    → (lock_number shape h.lock ≢ lock_number shape lock) × (is_same_lock h.lock lock ≡ false)
other_before shape h hs are lock real some =
    let differ : lock_number shape h.lock ≢ lock_number shape lock =
    λ is.
    let here : times (lock_number shape lock) (lock_number shape h.lock ∷ lock_numbers shape hs) ≡ suc (times (lock_number shape lock) (lock_numbers shape hs)) =
    ap (λ (n : ℕ). times (lock_number shape lock) (n ∷ lock_numbers shape hs)) is ∙ times_here (lock_number shape lock) (lock_numbers shape hs) in
    let most = are.once (lock_number shape lock) in
    absurd (omega arith) in
    (differ, same_by_number shape h.lock lock are.real.0 real ∙ ne_eqb (lock_number shape h.lock) (lock_number shape lock) differ)

in_numbers : (shape : Shape) (hs : List LockHistory) → AllByRecursion (IsReal shape) hs → (i : ℕ) (history : LockHistory) → slice_get hs i ≡ Some history → IsTrue (is_lock shape history.lock) × (0 < times (lock_number shape history.lock) (lock_numbers shape hs))
in_numbers shape [] real i history at = absurd (none-some history at)
in_numbers shape (h ∷ hs) real zero history at =
    subst (λ (x : LockHistory). IsTrue (is_lock shape x.lock) × (0 < times (lock_number shape x.lock) (lock_number shape h.lock ∷ lock_numbers shape hs))) (same_Some h history at)
    (real.0, let here = times_here (lock_number shape h.lock) (lock_numbers shape hs) in omega arith)
in_numbers shape (h ∷ hs) real (suc i) history at =
    let rest = in_numbers shape hs real.1 i history at in
    let some = rest.1 in
    let less = times_tail (lock_number shape history.lock) (lock_number shape h.lock) (lock_numbers shape hs) in
    (rest.0, omega arith)

-- the entries of a history are those of its lock
pub entries_there : (shape : Shape) (hs : List LockHistory) → AreOrdered shape hs → (i : ℕ) (history : LockHistory) → slice_get hs i ≡ Some history → entries_of hs history.lock ≡ history.entries
entries_there shape [] are i history at = absurd (none-some history at)
entries_there shape (h ∷ hs) are zero history at =
    subst (λ (x : LockHistory). entries_of (h ∷ hs) x.lock ≡ x.entries) (same_Some h history at) (ap (λ (b : Bool). cond b h.entries (entries_of hs h.lock)) (same_lock h.lock))
entries_there shape (h ∷ hs) are (suc i) history at =
    let its = in_numbers shape hs are.real.1 i history at in
    let other = other_before shape h hs are history.lock its.0 its.1 in
    ap (λ (b : Bool). cond b h.entries (entries_of hs history.lock)) other.1 ∙ entries_there shape hs (behind_first shape h hs are) i history at

-- the entries of a lock on which one stands are those of a history
pub history_of : (hs : List LockHistory) (p : StrandStep) → Stands hs p → (i : ℕ) × (history : LockHistory) × (slice_get hs i ≡ Some history) × (entries_of hs p.lock ≡ history.entries)
history_of [] p stands = absurd (omega arith)
history_of (h ∷ hs) p stands = ⊎_elim
    (λ (same : is_same_lock h.lock p.lock ≡ true). (zero, h, refl, ap (λ (b : Bool). cond b h.entries (entries_of hs p.lock)) same))
    (λ (other : is_same_lock h.lock p.lock ≡ false).
    let rest = history_of hs p (subst (λ (b : Bool). p.index < length (cond b h.entries (entries_of hs p.lock))) other stands) in
    (suc rest.0, rest.1, rest.2, ap (λ (b : Bool). cond b h.entries (entries_of hs p.lock)) other ∙ rest.3))
    (cases_Bool (is_same_lock h.lock p.lock))
