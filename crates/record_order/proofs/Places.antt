-- Entries by their places, and by their numbers in the order of the locks.
use Rattle.std.proofs.Common.{◌≡◌, ℕ, zero, suc, ◌+◌, ◌-◌, ◌<◌, ◌≤◌, Bool, true, false, cond, eqb, List, [], ◌∷◌, ◌++◌, length, get_or, set, refl, ap, sym, ◌∙◌, subst, ⊎_elim, arith, Some}
use Rattle.std.specs.Prelude.{IsTrue}
use Rattle.std.specs.List.{flat_map}
use Rattle.std.proofs.lemmas.Bool.{cases_Bool, cases_lt, lt-ltb, le-ltb}
use Rattle.std.proofs.lemmas.List.{length-append, get_or_append_left, get_or-append-add, length-set, get_or-set_same, get_or-set_other}
use Rattle.map_types.specs.declared.attr.Shape.{Shape}
use Rattle.map_types.specs.declared.kind.DomainId.{DomainId}
use Rattle.map_types.specs.ElementLists.{times}
use Rattle.map_types.proofs.RowLemmas.{by_test}
use Rattle.place_words.specs.declared.history.LockHistory.{LockHistory}
use Rattle.place_words.specs.declared.history.StrandStep.{StrandStep}
use Rattle.place_words.specs.Locks.{is_lock, is_same_lock, lock_number}
use Rattle.place_words.specs.Named.{entries_of}
use Rattle.place_words.specs.Tickets.{all_entries, ticket_at, tickets_of}
use Rattle.place_words.proofs.Ascending.{tickets_append}
use Rattle.place_words.proofs.LockLemmas.{same_lock, one_lock}
use Rattle.map_report.proofs.LogTickets.{as_many}
use Rattle.record_order.specs.Tickets.{Stands, entries_before, number_of}
use Rattle.record_order.specs.TicketTables.{firsts_from, least_after, leasts_on_locks, next_least, place_of}
use Rattle.record_order.proofs.LocksOnce.{AreOrdered, behind_first, lock_numbers, other_before, same_by_number, stands_on}
use Rattle.record_order.proofs.OnceEach.{times_here}

-- what stands behind the first history
behind : (h : LockHistory) (hs : List LockHistory) (p : StrandStep) → is_same_lock h.lock p.lock ≡ false → Stands (h ∷ hs) p → Stands hs p
behind h hs p other stands = subst (λ (b : Bool). p.index < length (cond b h.entries (entries_of hs p.lock))) other stands

within : (h : LockHistory) (hs : List LockHistory) (p : StrandStep) → is_same_lock h.lock p.lock ≡ true → Stands (h ∷ hs) p → p.index < length h.entries
within h hs p same stands = subst (λ (b : Bool). p.index < length (cond b h.entries (entries_of hs p.lock))) same stands

number_here : (h : LockHistory) (hs : List LockHistory) (p : StrandStep) → is_same_lock h.lock p.lock ≡ true → number_of (h ∷ hs) p ≡ p.index
number_here h hs p same = let is : 0 + p.index ≡ p.index = omega arith in ap (λ (b : Bool). cond b 0 (length h.entries + entries_before hs p.lock) + p.index) same ∙ is

number_behind : (h : LockHistory) (hs : List LockHistory) (p : StrandStep) → is_same_lock h.lock p.lock ≡ false → number_of (h ∷ hs) p ≡ length h.entries + number_of hs p
number_behind h hs p other =
    let is : (length h.entries + entries_before hs p.lock) + p.index ≡ length h.entries + (entries_before hs p.lock + p.index) = omega arith in
    ap (λ (b : Bool). cond b 0 (length h.entries + entries_before hs p.lock) + p.index) other ∙ is

-- the number of an entry is below the number of entries
pub number_below : (hs : List LockHistory) (p : StrandStep) → Stands hs p → number_of hs p < length (all_entries hs)
number_below [] p stands = absurd (omega arith)
number_below (h ∷ hs) p stands =
    let all = length-append h.entries (all_entries hs) in
    ⊎_elim
    (λ (same : is_same_lock h.lock p.lock ≡ true). let less = within h hs p same stands in let number = number_here h hs p same in omega arith)
    (λ (other : is_same_lock h.lock p.lock ≡ false). let less = number_below hs p (behind h hs p other stands) in let number = number_behind h hs p other in omega arith)
    (cases_Bool (is_same_lock h.lock p.lock))

-- what is made of the tickets of each history, at the number of an entry
module _ (f : List ℕ → List ℕ) (long : (xs : List ℕ) → length (f xs) ≡ length xs) where
  abbrev of_each : LockHistory → List ℕ
  of_each history = f (tickets_of history.entries)

  each_long : (h : LockHistory) → length (of_each h) ≡ length h.entries
  each_long h = long (tickets_of h.entries) ∙ as_many h.entries

  at_number : (hs : List LockHistory) (p : StrandStep) → Stands hs p → get_or (flat_map of_each hs) (number_of hs p) 0 ≡ get_or (f (tickets_of (entries_of hs p.lock))) p.index 0
  at_number [] p stands = absurd (omega arith)
  at_number (h ∷ hs) p stands = ⊎_elim
      (λ (same : is_same_lock h.lock p.lock ≡ true).
      let less = within h hs p same stands in
      let all = each_long h in
      ap (λ (n : ℕ). get_or (of_each h ++ flat_map of_each hs) n 0) (number_here h hs p same)
      ∙ (get_or_append_left (of_each h) (flat_map of_each hs) 0 p.index (omega arith)
      ∙ ap (λ (b : Bool). get_or (f (tickets_of (cond b h.entries (entries_of hs p.lock)))) p.index 0) (sym same)))
      (λ (other : is_same_lock h.lock p.lock ≡ false).
      let all = each_long h in
      ap (λ (n : ℕ). get_or (of_each h ++ flat_map of_each hs) n 0) (number_behind h hs p other ∙ ap (λ (n : ℕ). n + number_of hs p) (sym all))
      ∙ (get_or-append-add (of_each h) (flat_map of_each hs) (number_of hs p) 0
      ∙ (at_number hs p (behind h hs p other stands)
      ∙ ap (λ (b : Bool). get_or (f (tickets_of (cond b h.entries (entries_of hs p.lock)))) p.index 0) (sym other))))
      (cases_Bool (is_same_lock h.lock p.lock))

tickets_are : (hs : List LockHistory) → tickets_of (all_entries hs) ≡ flat_map (λ (history : LockHistory). tickets_of history.entries) hs
tickets_are [] = refl
tickets_are (h ∷ hs) = tickets_append h.entries (all_entries hs) ∙ ap (λ (xs : List ℕ). tickets_of h.entries ++ xs) (tickets_are hs)

-- the ticket of an entry by its number
pub ticket_is : (hs : List LockHistory) (p : StrandStep) → Stands hs p → get_or (tickets_of (all_entries hs)) (number_of hs p) 0 ≡ ticket_at hs p
ticket_is hs p stands = ap (λ (xs : List ℕ). get_or xs (number_of hs p) 0) (tickets_are hs) ∙ at_number (λ xs. xs) (λ xs. refl) hs p stands

-- the least tickets of a history

least_long : (least : ℕ) (xs : List ℕ) → length (least_after least xs) ≡ length xs
least_long least [] = refl
least_long least (x ∷ xs) = ap suc (least_long (next_least x) xs)

least_first : (least : ℕ) (xs : List ℕ) → least ≤ 0 → get_or (least_after least xs) 0 0 ≡ 0
least_first least [] none = refl
least_first least (x ∷ xs) none = omega arith

least_next : (least : ℕ) (xs : List ℕ) (i : ℕ) → suc i < length xs → get_or (least_after least xs) (suc i) 0 ≡ next_least (get_or xs i 0)
least_next least [] i less = absurd (omega arith)
least_next least (x ∷ []) i less = absurd (omega arith)
least_next least (x ∷ y ∷ xs) zero less = refl
least_next least (x ∷ y ∷ xs) (suc i) less = least_next (next_least x) (y ∷ xs) i (omega arith)

pub leasts_long : (hs : List LockHistory) → length (leasts_on_locks hs) ≡ length (all_entries hs)
leasts_long [] = refl
leasts_long (h ∷ hs) =
    let its = least_long 0 (tickets_of h.entries) in
    let many = as_many h.entries in
    let rest = leasts_long hs in
    let all = length-append h.entries (all_entries hs) in
    length-append (least_after 0 (tickets_of h.entries)) (leasts_on_locks hs) ∙ omega arith

pub least_of_first : (hs : List LockHistory) (p : StrandStep) → Stands hs p → p.index ≡ 0 → get_or (leasts_on_locks hs) (number_of hs p) 0 ≡ 0
least_of_first hs p stands is =
    at_number (least_after 0) (least_long 0) hs p stands ∙ (ap (λ (i : ℕ). get_or (least_after 0 (tickets_of (entries_of hs p.lock))) i 0) is ∙ least_first 0 (tickets_of (entries_of hs p.lock)) (omega arith))

pub least_of_next : (hs : List LockHistory) (p : StrandStep) → Stands hs p → (before : ℕ) → p.index ≡ suc before
    → get_or (leasts_on_locks hs) (number_of hs p) 0 ≡ next_least (ticket_at hs (record { lock = p.lock; index = before }))
least_of_next hs p stands before is =
    let many = as_many (entries_of hs p.lock) in
    at_number (least_after 0) (least_long 0) hs p stands ∙ (ap (λ (i : ℕ). get_or (least_after 0 (tickets_of (entries_of hs p.lock))) i 0) is ∙ least_next 0 (tickets_of (entries_of hs p.lock)) before (omega arith))

-- the place of a number, and back
pub place_back : (hs : List LockHistory) (p : StrandStep) → Stands hs p → place_of hs (number_of hs p) ≡ Some p
place_back [] p stands = absurd (omega arith)
place_back (h ∷ hs) p stands = ⊎_elim
    (λ (same : is_same_lock h.lock p.lock ≡ true).
    let less = within h hs p same stands in
    let here : place_of (h ∷ hs) p.index ≡ Some (record { lock = h.lock; index = p.index }) =
    ap (λ (b : Bool). cond b (Some (record { lock = h.lock; index = p.index })) (place_of hs (p.index - length h.entries))) (lt-ltb p.index (length h.entries) less) in
    ap (place_of (h ∷ hs)) (number_here h hs p same) ∙ (here ∙ ap (λ (lock : DomainId). Some (record { lock = lock; index = p.index })) (one_lock h.lock p.lock same)))
    (λ (other : is_same_lock h.lock p.lock ≡ false).
    let n : ℕ = length h.entries + number_of hs p in
    let back : n - length h.entries ≡ number_of hs p = omega arith in
    let past : place_of (h ∷ hs) n ≡ place_of hs (n - length h.entries) =
    ap (λ (b : Bool). cond b (Some (record { lock = h.lock; index = n })) (place_of hs (n - length h.entries))) (le-ltb n (length h.entries) (omega arith)) in
    ap (place_of (h ∷ hs)) (number_behind h hs p other) ∙ (past ∙ (ap (place_of hs) back ∙ place_back hs p (behind h hs p other stands))))
    (cases_Bool (is_same_lock h.lock p.lock))

pub record HasPlace (hs : List LockHistory) (g : ℕ) : Type 0 where
  pub place : StrandStep
  pub found : place_of hs g ≡ Some place
  pub stands : Stands hs place
  pub number : number_of hs place ≡ g

-- each number below the number of entries has a place
pub has_place : (shape : Shape) (hs : List LockHistory) → AreOrdered shape hs → (g : ℕ) → g < length (all_entries hs) → HasPlace hs g
has_place shape [] are g less = absurd (omega arith)
has_place shape (h ∷ hs) are g less =
    let all = length-append h.entries (all_entries hs) in
    ⊎_elim
    (λ (here : g < length h.entries).
    let p : StrandStep = record { lock = h.lock; index = g } in
    let same = same_lock h.lock in
    let stands : Stands (h ∷ hs) p = subst (λ (b : Bool). g < length (cond b h.entries (entries_of hs h.lock))) (sym same) here in
    record {
      place = p;
      found = ap (λ (b : Bool). cond b (Some (record { lock = h.lock; index = g })) (place_of hs (g - length h.entries))) (lt-ltb g (length h.entries) here);
      stands = stands;
      number = number_here h hs p same;
    })
    (λ (past : length h.entries ≤ g).
    let rest = has_place shape hs (behind_first shape h hs are) (g - length h.entries) (omega arith) in
    let on = stands_on shape hs are.real.1 rest.place rest.stands in
    let other = (other_before shape h hs are rest.place.lock on.0 on.1).1 in
    let number = rest.number in
    record {
      place = rest.place;
      found = ap (λ (b : Bool). cond b (Some (record { lock = h.lock; index = g })) (place_of hs (g - length h.entries))) (le-ltb g (length h.entries) past) ∙ rest.found;
      stands = subst (λ (b : Bool). rest.place.index < length (cond b h.entries (entries_of hs rest.place.lock))) (sym other) rest.stands;
      number = number_behind h hs rest.place other ∙ omega arith;
    })
    (cases_lt g (length h.entries))

-- the table of how many entries stand before each lock's

module _ (shape : Shape) where
  pub firsts_long : (count : ℕ) (hs : List LockHistory) (firsts : List ℕ) → length (firsts_from shape count hs firsts) ≡ length firsts
  firsts_long count [] firsts = refl
  firsts_long count (h ∷ hs) firsts = firsts_long (count + length h.entries) hs (set firsts (lock_number shape h.lock) count) ∙ length-set firsts (lock_number shape h.lock) count

  firsts_keep : (count : ℕ) (hs : List LockHistory) (firsts : List ℕ) (k : ℕ) → times k (lock_numbers shape hs) ≡ 0 → get_or (firsts_from shape count hs firsts) k 0 ≡ get_or firsts k 0
  firsts_keep count [] firsts k none = refl
  firsts_keep count (h ∷ hs) firsts k none =
      let n : ℕ = lock_number shape h.lock in
      by_test n k (λ b. cond b (suc (times k (lock_numbers shape hs))) (times k (lock_numbers shape hs)) ≡ 0 → get_or (firsts_from shape count (h ∷ hs) firsts) k 0 ≡ get_or firsts k 0)
      (λ _ some. absurd (omega arith))
      (λ other rest. firsts_keep (count + length h.entries) hs (set firsts n count) k rest ∙ get_or-set_other firsts n k count 0 (λ is. other (sym is)))
      none

  pub firsts_are : (count : ℕ) (hs : List LockHistory) → AreOrdered shape hs → (firsts : List ℕ) (lock : DomainId) → IsTrue (is_lock shape lock) → 0 < times (lock_number shape lock) (lock_numbers shape hs)
      → lock_number shape lock < length firsts → get_or (firsts_from shape count hs firsts) (lock_number shape lock) 0 ≡ count + entries_before hs lock
  firsts_are count [] are firsts lock real some room = absurd (omega arith)
  firsts_are count (h ∷ hs) are firsts lock real some room =
      let k : ℕ = lock_number shape lock in
      let n : ℕ = lock_number shape h.lock in
      by_test n k (λ b. eqb n k ≡ b → get_or (firsts_from shape count (h ∷ hs) firsts) k 0 ≡ count + entries_before (h ∷ hs) lock)
      (λ is test.
      let same : is_same_lock h.lock lock ≡ true = same_by_number shape h.lock lock are.real.0 real ∙ test in
      let most = are.once k in
      let here : times k (n ∷ lock_numbers shape hs) ≡ suc (times k (lock_numbers shape hs)) = ap (λ (m : ℕ). times k (m ∷ lock_numbers shape hs)) is ∙ times_here k (lock_numbers shape hs) in
      let none : times k (lock_numbers shape hs) ≡ 0 = omega arith in
      let put : get_or (set firsts n count) k 0 ≡ count = ap (λ (m : ℕ). get_or (set firsts m count) k 0) is ∙ get_or-set_same firsts k count 0 room in
      let no_more : count ≡ count + 0 = omega arith in
      firsts_keep (count + length h.entries) hs (set firsts n count) k none ∙ (put ∙ (no_more ∙ ap (λ (b : Bool). count + cond b 0 (length h.entries + entries_before hs lock)) (sym same))))
      (λ differ test.
      let other : is_same_lock h.lock lock ≡ false = same_by_number shape h.lock lock are.real.0 real ∙ test in
      let there : times k (n ∷ lock_numbers shape hs) ≡ times k (lock_numbers shape hs) = ap (λ (b : Bool). cond b (suc (times k (lock_numbers shape hs))) (times k (lock_numbers shape hs))) test in
      let long = length-set firsts n count in
      let sum : (count + length h.entries) + entries_before hs lock ≡ count + (length h.entries + entries_before hs lock) = omega arith in
      firsts_are (count + length h.entries) hs (behind_first shape h hs are) (set firsts n count) lock real (omega arith) (omega arith)
      ∙ (sum ∙ ap (λ (b : Bool). count + cond b 0 (length h.entries + entries_before hs lock)) (sym other)))
      refl
