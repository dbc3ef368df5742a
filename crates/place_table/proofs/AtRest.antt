-- Where no CPU holds a lock and none has an element in hand, a map that evicts is at rest as its histories tell it: each element is on
-- one list, and where it is listed it is in the bucket of the hash in its row.
use Rattle.std.proofs.Common.{◌≡◌, ℕ, zero, suc, ◌+◌, ◌<◌, ◌≤◌, Bool, true, false, cond, not, ◌&&◌, eqb, ltb, List, [], ◌∷◌, ◌++◌, refl, ap, sym, ◌∙◌, subst, ⊎_elim, append-nil, arith}
use Rattle.std.specs.Prelude.{IsTrue, Option, None, Some, MatchOption, find, option_map, unwrap_or}
use Rattle.std.proofs.lemmas.Bool.{both_ways, cases_lt, eq-eqb, eqb-true, lt-ltb, le-ltb, ltb-true, and_parts}
use Rattle.map_types.specs.declared.attr.Shape.{Shape}
use Rattle.map_types.specs.declared.kind.DomainId.{DomainId}
use Rattle.map_types.specs.declared.kind.DomainId.TheVariants.{Local, Global, CpuLru, Bucket, Freelist}
use Rattle.map_types.specs.declared.row.Row.{Row}
use Rattle.map_types.specs.ElementLists.{one, times, IsIn}
use Rattle.map_types.specs.Kind.{is_lru}
use Rattle.map_types.specs.Listed.{elements_of}
use Rattle.map_types.specs.Shape.{HasBounds}
use Rattle.map_types.specs.Stored.{Stored}
use Rattle.map_types.proofs.RowLemmas.{times_append}
use Rattle.place_words.specs.declared.history.Entry.{Entry}
use Rattle.place_words.specs.declared.history.Part.{Part}
use Rattle.place_words.specs.declared.history.Part.TheVariants as parts
use Rattle.place_words.specs.declared.list_part.LocalPart.{LocalPart}
use Rattle.place_words.specs.declared.list_part.LocalPart.TheVariants as local
use Rattle.place_words.specs.declared.list_part.Stolen.TheVariants.{Free, Pending, Nothing}
use Rattle.place_words.specs.declared.owner.Owner.{Owner}
use Rattle.place_words.specs.declared.owner.Owner.TheVariants as owners
use Rattle.place_words.specs.Bodies.{numbers}
use Rattle.place_words.specs.Histories.{Content, Allows, AllAllowed, content, content_after, opening_content, replayed, in_bucket, on_freelist, in_locals, in_global, in_own, locals_in}
use Rattle.place_words.specs.Locals.{LocalLists, AllowsOnLocal, new_locals, local_after}
use Rattle.place_words.specs.Locks.{is_lock, is_same_lock, lock_named, lock_number}
use Rattle.place_words.specs.Logs.{State, lies_in, locals_at, own_at, globals_at}
use Rattle.place_words.specs.Openings.{is_free}
use Rattle.place_words.specs.RowMoves.{rows_of}
use Rattle.place_words.specs.Takings.{listed_rows, stored_hash, set_of}
use Rattle.place_words.proofs.EvictingDone.{IsAtRest}
use Rattle.place_words.proofs.ListContents.{lies_locals, lies_globals, lies_own}
use Rattle.place_words.proofs.ListSums.{list_locks, sum_over, how_often}
use Rattle.place_words.proofs.LockLemmas.{named_by_number}
use Rattle.place_words.proofs.OpeningSettled.{first_rests}
use Rattle.place_words.proofs.RowCounts.{rows_least}
use Rattle.place_words.proofs.Settled.{elements_on, rows_on, bodies_in, bodies_at, is_of, IsFit, held}
use Rattle.place_words.specs.declared.step.Lists.{Lists}
use Rattle.place_words.specs.Places.{ElementPlace, under_lock, carried, lies_at, is_in_bucket, has_row, MayLie, MayLieUnder, MayOwn}
use Rattle.place_words.specs.State.{rows}
use Rattle.place_words.proofs.RowLemmas.{lies_is}
use Rattle.place_table.specs.Contents.{lists_of}
use Rattle.place_table.specs.Idle.{IsListLock, IsIdle}
use Rattle.place_table.specs.Rules.{is_hand_of}
use Rattle.place_table.proofs.ListLocks.{sum_where, sum_nothing, and_true, listed_here, once_of, lies_by, each_list_lock, home_once, all_as_lists}
use Rattle.place_table.specs.StoredHashes.{stored_in}

-- What legal turns leave under local lists, a bucket and a freelist

local_steals : (shape : Shape) (part : LocalPart) (lists : LocalLists) → AllowsOnLocal shape part lists → lists.steal < shape.cpus → (local_after part lists).steal < shape.cpus
unfolding local_after
local_steals shape (local.Pop key_hash e) lists may within = within
local_steals shape (local.Refill key_hash flushed gained got) lists may within = within
local_steals shape (local.Steal (Free e) first second) lists may within = within
local_steals shape (local.Steal (Pending e) first second) lists may within = within
local_steals shape (local.Steal Nothing first second) lists may within = within
local_steals shape (local.Add key_hash e cursor) lists may within = may.2
local_steals shape (local.Push e true) lists may within = within
local_steals shape (local.Push e false) lists may within = within

abbrev IsLocalsWithin : Shape → Content → Type 0
IsLocalsWithin shape here = MatchOption (locals_in here) ⊥ (λ (lists : LocalLists). lists.steal < shape.cpus)

locals_part : (shape : Shape) (cpu : ℕ) (part : Part) (lists : LocalLists) → Allows shape cpu part (in_locals lists) → lists.steal < shape.cpus → (now : LocalLists) × (content_after shape cpu part (in_locals lists) ≡ in_locals now) × (now.steal < shape.cpus)
locals_part shape cpu (parts.Bucket part) lists may within = absurd may
locals_part shape cpu (parts.Free part) lists may within = absurd may
locals_part shape cpu (parts.Local part) lists may within = (local_after part lists, refl, local_steals shape part lists may within)
locals_part shape cpu (parts.Global part) lists may within = absurd may
locals_part shape cpu (parts.Own part) lists may within = absurd may

locals_left : (shape : Shape) (entries : List Entry) (lists : LocalLists) → AllAllowed shape (in_locals lists) entries → lists.steal < shape.cpus → IsLocalsWithin shape (replayed shape (in_locals lists) entries)
unfolding replayed AllAllowed
locals_left shape [] lists all within = within
locals_left shape (entry ∷ entries) lists all within =
    let one = locals_part shape entry.cpu entry.part lists all.0 within in
    subst (λ (here : Content). IsLocalsWithin shape (replayed shape here entries)) (sym one.1)
    (locals_left shape entries one.0 (subst (λ (here : Content). AllAllowed shape here entries) one.1 all.1) one.2)

bucket_part : (shape : Shape) (cpu : ℕ) (part : Part) (bodies : List Stored) → (now : List Stored) × (content_after shape cpu part (in_bucket bodies) ≡ in_bucket now)
bucket_part shape cpu (parts.Bucket part) bodies = (_, refl)
bucket_part shape cpu (parts.Free part) bodies = (bodies, refl)
bucket_part shape cpu (parts.Local part) bodies = (bodies, refl)
bucket_part shape cpu (parts.Global part) bodies = (bodies, refl)
bucket_part shape cpu (parts.Own part) bodies = (bodies, refl)

bucket_left : (shape : Shape) (entries : List Entry) (bodies : List Stored) → (now : List Stored) × (replayed shape (in_bucket bodies) entries ≡ in_bucket now)
unfolding replayed
bucket_left shape [] bodies = (bodies, refl)
bucket_left shape (entry ∷ entries) bodies =
    let one = bucket_part shape entry.cpu entry.part bodies in
    let rest = bucket_left shape entries one.0 in
    (rest.0, ap (λ (here : Content). replayed shape here entries) one.1 ∙ rest.1)

stack_part : (shape : Shape) (cpu : ℕ) (part : Part) (stack : List ℕ) → (now : List ℕ) × (content_after shape cpu part (on_freelist stack) ≡ on_freelist now)
stack_part shape cpu (parts.Bucket part) stack = (stack, refl)
stack_part shape cpu (parts.Free part) stack = (_, refl)
stack_part shape cpu (parts.Local part) stack = (stack, refl)
stack_part shape cpu (parts.Global part) stack = (stack, refl)
stack_part shape cpu (parts.Own part) stack = (stack, refl)

stack_left : (shape : Shape) (entries : List Entry) (stack : List ℕ) → (now : List ℕ) × (replayed shape (on_freelist stack) entries ≡ on_freelist now)
unfolding replayed
stack_left shape [] stack = (stack, refl)
stack_left shape (entry ∷ entries) stack =
    let one = stack_part shape entry.cpu entry.part stack in
    let rest = stack_left shape entries one.0 in
    (rest.0, ap (λ (here : Content). replayed shape here entries) one.1 ∙ rest.1)

by_bool : (b : Bool) (F : Bool → Type 0) → (b ≡ true → F true) → (b ≡ false → F false) → F b
by_bool true F hit miss = hit refl
by_bool false F hit miss = miss refl

-- an element that has one row has it with its stored hash
one_row : (e h : ℕ) (of : ℕ → Bool) (rs : List Row) → times e (elements_of rs) ≡ 1 → stored_hash e rs ≡ Some h → rows_of e of rs ≡ one (of h)
one_row e h of [] once is = absurd (omega (arith, once))
one_row e h of (row ∷ rs) once is = by (eqb row.element e) once is (rows_least e of rs) (one_row e h of rs)
  where
    by : (b : Bool) → cond b (suc (times e (elements_of rs))) (times e (elements_of rs)) ≡ 1
        → option_map (λ (r : Row). r.hash) (cond b (Some row) (find (λ (r : Row). eqb r.element e) rs)) ≡ Some h
        → rows_of e of rs ≤ times e (elements_of rs) → (times e (elements_of rs) ≡ 1 → stored_hash e rs ≡ Some h → rows_of e of rs ≡ one (of h))
        → cond (b && of row.hash) (suc (rows_of e of rs)) (rows_of e of rs) ≡ one (of h)
    by true once is few rest =
        let hash_is : row.hash ≡ h = ap (λ (o : Option ℕ). unwrap_or o h) is in
        subst (λ (x : ℕ). cond (of x) (suc (rows_of e of rs)) (rows_of e of rs) ≡ one (of h)) (sym hash_is) (last (of h) (omega (arith, once, few)))
      where
        last : (b : Bool) → rows_of e of rs ≡ 0 → cond b (suc (rows_of e of rs)) (rows_of e of rs) ≡ one b
        last true none = ap suc none
        last false none = none
    by false once is few rest = rest once is

-- What lies under such a lock, as lists

rows_both : (xs ys : List Row) → elements_of (xs ++ ys) ≡ elements_of xs ++ elements_of ys
rows_both [] ys = refl
rows_both (row ∷ xs) ys = ap (λ (es : List ℕ). row.element ∷ es) (rows_both xs ys)

listed_as_lists : (shape : Shape) (state : State) (lock : DomainId) → IsListLock shape lock → elements_of (listed_rows (lies_in shape state lock)) ≡ rows (lists_of (lies_in shape state lock))
listed_as_lists shape state (Local cpu) is = let here = lies_locals shape state cpu in ap (λ (c : Content). elements_of (listed_rows c)) here ∙ (sym (append-nil (elements_of (locals_at shape state cpu).pending)) ∙ sym (ap (λ (c : Content). rows (lists_of c)) here))
listed_as_lists shape state Global is =
    let here = lies_globals shape state in
    ap (λ (c : Content). elements_of (listed_rows c)) here ∙ (rows_both (globals_at shape state).lists.active (globals_at shape state).lists.inactive ∙ sym (ap (λ (c : Content). rows (lists_of c)) here))
listed_as_lists shape state (CpuLru cpu) is =
    let here = lies_own shape state cpu in
    ap (λ (c : Content). elements_of (listed_rows c)) here ∙ (rows_both (own_at shape state cpu).lists.active (own_at shape state cpu).lists.inactive ∙ sym (ap (λ (c : Content). rows (lists_of c)) here))
listed_as_lists shape state (Bucket bucket) is = absurd is
listed_as_lists shape state (Freelist cpu) is = absurd is

module _ (shape : Shape) (bounds : HasBounds shape) (lru : is_lru shape.kind ≡ true) (logs : DomainId → List Entry) (idle : IsIdle shape logs) where
  abbrev now : State
  now = record { next_ticket = 0; logs = logs; bits = λ e. false; spares = λ cpu. None }

  there : (lock : DomainId) → IsListLock shape lock → IsTrue (is_lock shape lock)
  there (Local cpu) is = is
  there Global is = is
  there (CpuLru cpu) is = is
  there (Bucket bucket) is = absurd is
  there (Freelist cpu) is = absurd is

  row_of : (lock : DomainId) → IsListLock shape lock → (owner : Owner) (here : Bool) → has_row (is_lru shape.kind) lock owner here ≡ (not (is_free owner) && here)
  row_of (Local cpu) is owner here = ap (λ (evicts : Bool). evicts && (not (is_free owner) && here)) lru
  row_of Global is owner here = ap (λ (evicts : Bool). evicts && (not (is_free owner) && here)) lru
  row_of (CpuLru cpu) is owner here = ap (λ (evicts : Bool). evicts && (not (is_free owner) && here)) lru
  row_of (Bucket bucket) is owner here = absurd is
  row_of (Freelist cpu) is owner here = absurd is

  abbrev here : ℕ → DomainId → Bool
  here e lock = lies_at (lock_number shape lock) (idle.placed.place e)

  rows_there : (e : ℕ) (lock : DomainId) → IsListLock shape lock → times e (rows (idle.core.lists (lock_number shape lock))) ≡ one (ltb e shape.elements && (not (is_free (idle.core.owner e)) && here e lock))
  rows_there e lock is =
      idle.placed.placed.rows (lock_number shape lock) e
      ∙ ap (λ (l : DomainId). one (ltb e shape.elements && has_row (is_lru shape.kind) l (idle.core.owner e) (here e lock))) (named_by_number shape lock (there lock is))
      ∙ ap (λ (b : Bool). one (ltb e shape.elements && b)) (row_of lock is (idle.core.owner e) (here e lock))

  all_there : (e : ℕ) (lock : DomainId) → IsListLock shape lock → elements_on e (lies_in shape now lock) ≡ one (ltb e shape.elements && here e lock)
  all_there e lock is =
      all_as_lists e (lies_in shape now lock)
      ∙ ap (λ (l : Lists). times e (l.free ++ rows l)) (sym (idle.lists_are lock (there lock is)))
      ∙ times_append e (idle.core.lists (lock_number shape lock)).free (rows (idle.core.lists (lock_number shape lock)))
      ∙ (λ i. idle.placed.placed.free (lock_number shape lock) e i + rows_there e lock is i)
      ∙ listed_here (ltb e shape.elements) (is_free (idle.core.owner e)) (here e lock)

  -- the rows of an element under a lock whose hashes are of a bucket: one where that bucket owns it and it lies there
  of_hash : (e bucket : ℕ) (owner : Owner) → idle.core.owner e ≡ owner → MayOwn shape owner → is_free owner ≡ false → is_of shape bucket (idle.hash e) ≡ is_in_bucket bucket owner
  of_hash e bucket owners.Free is own taken = absurd cc
  of_hash e bucket (owners.Bucket b) is own taken = ap (λ (n : ℕ). eqb n bucket) (idle.of_bucket e b is)
  of_hash e bucket (owners.Hand cpu) is own taken = absurd (both_ways (is_hand_of cpu (idle.core.owner e)) (idle.empty_handed e cpu own) (ap (is_hand_of cpu) is ∙ eq-eqb cpu cpu refl))

  not_free : (bucket : ℕ) (owner : Owner) → is_free owner ≡ true → is_in_bucket bucket owner ≡ false
  not_free bucket owners.Free is = refl
  not_free bucket (owners.Bucket b) is = absurd cc
  not_free bucket (owners.Hand cpu) is = absurd cc

  told_there : (e : ℕ) (lock : DomainId) → IsListLock shape lock → IsIn e (rows (idle.core.lists (lock_number shape lock))) → stored_hash e (listed_rows (lies_in shape now lock)) ≡ Some (idle.hash e)
  unfolding stored_in
  told_there e lock is inside = idle.stored lock is e inside

  lies_empty : (lock : DomainId) → logs lock ≡ [] → lies_in shape now lock ≡ opening_content shape lock
  unfolding replayed
  lies_empty lock none = ap (λ (entries : List Entry). content shape lock entries) none

  hashed_there : (e bucket : ℕ) (lock : DomainId) → IsListLock shape lock → rows_on e (is_of shape bucket) (lies_in shape now lock) ≡ one ((ltb e shape.elements && is_in_bucket bucket (idle.core.owner e)) && here e lock)
  hashed_there e bucket lock is = by (ltb e shape.elements) (is_free (idle.core.owner e)) (here e lock) refl refl refl
    where
      rs : List Row
      rs = listed_rows (lies_in shape now lock)

      counted_rows : times e (elements_of rs) ≡ one (ltb e shape.elements && (not (is_free (idle.core.owner e)) && here e lock))
      counted_rows = ap (times e) (listed_as_lists shape now lock is ∙ ap rows (sym (idle.lists_are lock (there lock is)))) ∙ rows_there e lock is

      none : (b : Bool) → b ≡ false → times e (elements_of rs) ≡ 0 → rows_of e (is_of shape bucket) rs ≡ one b
      none b never zero_times = let few = rows_least e (is_of shape bucket) rs in let no : rows_of e (is_of shape bucket) rs ≡ 0 = omega (arith, few, zero_times) in no ∙ sym (ap one never)

      by : (real free lies : Bool) → ltb e shape.elements ≡ real → is_free (idle.core.owner e) ≡ free → here e lock ≡ lies → rows_of e (is_of shape bucket) rs ≡ one ((real && is_in_bucket bucket (idle.core.owner e)) && lies)
      by false free lies real_is free_is lies_is = none false refl (counted_rows ∙ ap (λ (b : Bool). one (b && (not (is_free (idle.core.owner e)) && here e lock))) real_is)
      by true true lies real_is free_is lies_is =
          none (is_in_bucket bucket (idle.core.owner e) && lies) (ap (λ (b : Bool). b && lies) (not_free bucket (idle.core.owner e) free_is))
          (counted_rows ∙ (λ i. one (real_is i && (not (free_is i) && here e lock))))
      by true false false real_is free_is lies_is =
          none (is_in_bucket bucket (idle.core.owner e) && false) (and_no (is_in_bucket bucket (idle.core.owner e))) (counted_rows ∙ (λ i. one (real_is i && (not (free_is i) && lies_is i))))
        where
          and_no : (b : Bool) → (b && false) ≡ false
          and_no true = refl
          and_no false = refl
      by true false true real_is free_is lies_is =
          let once : times e (elements_of rs) ≡ 1 = counted_rows ∙ (λ i. one (real_is i && (not (free_is i) && lies_is i))) in
          let inside : IsIn e (rows (idle.core.lists (lock_number shape lock))) = (let count : times e (rows (idle.core.lists (lock_number shape lock))) ≡ 1 = rows_there e lock is ∙ (λ i. one (real_is i && (not (free_is i) && lies_is i))) in omega (arith, count)) in
          one_row e (idle.hash e) (is_of shape bucket) rs once (told_there e lock is inside)
          ∙ ap one (of_hash e bucket (idle.core.owner e) refl (idle.placed.placed.owners e (ltb-true e shape.elements real_is)) free_is ∙ sym (and_true (is_in_bucket bucket (idle.core.owner e))))

  -- Over all of them

  module _ (e : ℕ) where
    abbrev real : Bool
    real = ltb e shape.elements

    home : (place : ElementPlace) → idle.placed.place e ≡ place → MayOwn shape (idle.core.owner e) → MayLie shape e (idle.core.owner e) place → (k : ℕ) × (idle.placed.place e ≡ under_lock k) × MayLieUnder shape e (lock_named shape k)
    home (under_lock k) is own may = (k, is, may)
    home (carried cpu) is own may =
        let within : cpu < shape.cpus = subst (MayOwn shape) may.1 own in
        absurd (both_ways (is_hand_of cpu (idle.core.owner e)) (idle.empty_handed e cpu within) (ap (is_hand_of cpu) may.1 ∙ eq-eqb cpu cpu refl))

    here_is : (k : ℕ) → idle.placed.place e ≡ under_lock k → (lock : DomainId) → IsListLock shape lock → here e lock ≡ is_same_lock (lock_named shape k) lock
    here_is k is lock list = ap (lies_at (lock_number shape lock)) is ∙ lies_by shape k lock (there lock list)

    counted : (f : Content → ℕ) (some : Bool) → ((lock : DomainId) → IsListLock shape lock → f (lies_in shape now lock) ≡ one ((real && some) && here e lock)) → sum_over f (lies_in shape now) (list_locks shape) ≡ one (real && some)
    counted f some each =
        ⊎_elim
        (λ (within : e < shape.elements).
        let at = home (idle.placed.place e) refl (idle.placed.placed.owners e within) (idle.placed.placed.places e within) in
        sum_where f (lies_in shape now) (lock_named shape at.0) (real && some) (list_locks shape)
        (each_list_lock shape lru (λ (lock : DomainId). f (lies_in shape now lock) ≡ one ((real && some) && is_same_lock (lock_named shape at.0) lock))
        (λ lock list. each lock list ∙ ap (λ (b : Bool). one ((real && some) && b)) (here_is at.0 at.1 lock list)))
        ∙ once_of (real && some) (how_often (lock_named shape at.0) (list_locks shape)) (home_once shape lru e (lock_named shape at.0) at.2))
        (λ (past : shape.elements ≤ e).
        let beyond : real ≡ false = le-ltb e shape.elements past in
        sum_nothing f (lies_in shape now) (list_locks shape)
        (each_list_lock shape lru (λ (lock : DomainId). f (lies_in shape now lock) ≡ 0) (λ lock list. each lock list ∙ ap (λ (b : Bool). one ((b && some) && here e lock)) beyond))
        ∙ sym (ap (λ (b : Bool). one (b && some)) beyond))
        (cases_lt e shape.elements)

    once_now : sum_over (elements_on e) (lies_in shape now) (list_locks shape) ≡ one real
    once_now = counted (elements_on e) true (λ lock list. all_there e lock list ∙ ap (λ (b : Bool). one (b && here e lock)) (sym (and_true real))) ∙ ap one (and_true real)

    bucket_now : (bucket : ℕ) → times e (numbers (bodies_at (lies_in shape now) bucket)) ≡ one (real && is_in_bucket bucket (idle.core.owner e))
    bucket_now bucket = by (is_lock shape (Bucket bucket)) refl
      where
        by : (b : Bool) → is_lock shape (Bucket bucket) ≡ b → times e (numbers (bodies_at (lies_in shape now) bucket)) ≡ one (real && is_in_bucket bucket (idle.core.owner e))
        by true is =
            let left = bucket_left shape (logs (Bucket bucket)) [] in
            ap (λ (c : Content). times e (numbers (bodies_in c))) left.1 ∙ (ap (times e) (sym (append-nil (numbers left.0))) ∙ (sym (ap (λ (c : Content). times e (rows (lists_of c))) left.1)
            ∙ (ap (λ (l : Lists). times e (rows l)) (sym (idle.lists_are (Bucket bucket) is)) ∙ (idle.placed.placed.rows (lock_number shape (Bucket bucket)) e
            ∙ ap (λ (l : DomainId). one (real && has_row (is_lru shape.kind) l (idle.core.owner e) (here e (Bucket bucket)))) (named_by_number shape (Bucket bucket) is)))))
        by false is = empty (lies_empty (Bucket bucket) (idle.others (Bucket bucket) is)) ∙ sym (ap one (beyond (ltb e shape.elements) (idle.core.owner e) refl refl))
          where
            empty : lies_in shape now (Bucket bucket) ≡ in_bucket [] → times e (numbers (bodies_at (lies_in shape now) bucket)) ≡ 0
            empty none = ap (λ (c : Content). times e (numbers (bodies_in c))) none

            beyond : (b : Bool) (owner : Owner) → real ≡ b → idle.core.owner e ≡ owner → (b && is_in_bucket bucket owner) ≡ false
            beyond false owner real_is owner_is = refl
            beyond true owners.Free real_is owner_is = refl
            beyond true (owners.Hand cpu) real_is owner_is = refl
            beyond true (owners.Bucket b) real_is owner_is = other (eqb b bucket) refl
              where
                other : (same : Bool) → eqb b bucket ≡ same → same ≡ false
                other false same = refl
                other true same =
                    let below : b < shape.buckets = subst (MayOwn shape) owner_is (idle.placed.placed.owners e (ltb-true e shape.elements real_is)) in
                    absurd (both_ways (ltb bucket shape.buckets) is (ap (λ (n : ℕ). ltb n shape.buckets) (sym (eqb-true b bucket same)) ∙ lt-ltb b shape.buckets below))

    placed_now : (bucket : ℕ) → times e (numbers (bodies_at (lies_in shape now) bucket)) + held 0 [] e bucket ≡ sum_over (rows_on e (is_of shape bucket)) (lies_in shape now) (list_locks shape)
    placed_now bucket =
        let none : held 0 [] e bucket ≡ 0 = by (eqb 0 bucket) in
        omega (arith, none, bucket_now bucket, counted (rows_on e (is_of shape bucket)) (is_in_bucket bucket (idle.core.owner e)) (hashed_there e bucket))
      where
        by : (b : Bool) → cond b 0 0 ≡ zero
        by true = refl
        by false = refl

  -- its own set has a CPU's elements alone
  own_fits : (cpu e : ℕ) → is_lock shape (CpuLru cpu) ≡ true → 1 ≤ elements_on e (lies_in shape now (CpuLru cpu)) → set_of shape e ≡ cpu
  own_fits cpu e is some = by (ltb e shape.elements) (here e (CpuLru cpu)) refl refl
    where
      by : (real lies : Bool) → ltb e shape.elements ≡ real → here e (CpuLru cpu) ≡ lies → set_of shape e ≡ cpu
      by true true real_is lies_is_there =
          let k : ℕ = lock_number shape (CpuLru cpu) in
          let place : idle.placed.place e ≡ under_lock k = lies_is k (idle.placed.place e) lies_is_there in
          let may : MayLie shape e (idle.core.owner e) (under_lock k) = subst (MayLie shape e (idle.core.owner e)) place (idle.placed.placed.places e (ltb-true e shape.elements real_is)) in
          let under : MayLieUnder shape e (CpuLru cpu) = subst (MayLieUnder shape e) (named_by_number shape (CpuLru cpu) is) may in
          sym under.1
      by false lies real_is lies_is_there = let none : elements_on e (lies_in shape now (CpuLru cpu)) ≡ 0 = all_there e (CpuLru cpu) is ∙ ap (λ (b : Bool). one (b && here e (CpuLru cpu))) real_is in absurd (omega (arith, none, some))
      by true false real_is lies_is_there = let none : elements_on e (lies_in shape now (CpuLru cpu)) ≡ 0 = all_there e (CpuLru cpu) is ∙ (λ i. one (real_is i && lies_is_there i)) in absurd (omega (arith, none, some))

  fits_there : (lock : DomainId) → is_lock shape lock ≡ true → IsFit shape lock (lies_in shape now lock)
  fits_there (Local cpu) is =
      let parts = and_parts shape.common (ltb cpu shape.cpus) is in
      within (lies_in shape now (Local cpu)) (locals_left shape (logs (Local cpu)) (new_locals cpu) (idle.legal (Local cpu)) (ltb-true cpu shape.cpus parts.1))
    where
      within : (c : Content) → IsLocalsWithin shape c → IsFit shape (Local cpu) c
      within (in_bucket bodies) is = is
      within (on_freelist stack) is = is
      within (in_locals lists) is = λ below. is
      within (in_global set) is = is
      within (in_own set) is = is
  fits_there Global is = subst (IsFit shape Global) (sym (lies_globals shape now)) tt
  fits_there (CpuLru cpu) is =
      let lies = lies_own shape now cpu in
      subst (IsFit shape (CpuLru cpu)) (sym lies) (λ e some. own_fits cpu e is (subst (λ (c : Content). 1 ≤ elements_on e c) (sym lies) some))
  fits_there (Bucket bucket) is = subst (IsFit shape (Bucket bucket)) (sym (bucket_left shape (logs (Bucket bucket)) []).1) tt
  fits_there (Freelist cpu) is = subst (IsFit shape (Freelist cpu)) (sym (stack_left shape (logs (Freelist cpu)) _).1) tt

  fits : (lock : DomainId) → IsFit shape lock (lies_in shape now lock)
  fits lock = by (is_lock shape lock) refl
    where
      by : (b : Bool) → is_lock shape lock ≡ b → IsFit shape lock (lies_in shape now lock)
      by true is = fits_there lock is
      by false is = subst (λ (entries : List Entry). IsFit shape lock (content shape lock entries)) (sym (idle.others lock is)) ((first_rests shape bounds lru).fit lock)

  pub idle_rests : IsAtRest shape (λ lock. content shape lock (logs lock))
  idle_rests = record { fit = fits; once = once_now; placed = placed_now }
