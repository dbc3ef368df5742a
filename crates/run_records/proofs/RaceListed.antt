-- The lists that a closed table leaves after a race on a map that evicts: each element is in a bucket or free, once, and on one list,
-- once.
use Rattle.std.proofs.Common.{◌≡◌, ℕ, ◌+◌, ◌<◌, ◌≤◌, Bool, true, false, not, ◌&&◌, eqb, ltb, [], ◌++◌, refl, ap, sym, ◌∙◌, subst, ⊎_elim, arith}
use Rattle.std.specs.Prelude.{IsTrue, flat_map}
use Rattle.std.specs.List.{range_with_len}
use Rattle.std.proofs.lemmas.Bool.{both_ways, cases_lt, eq-eqb, le-ltb, ltb-true}
use Rattle.map_types.specs.declared.attr.Shape.{Shape}
use Rattle.map_types.specs.declared.kind.DomainId.{DomainId}
use Rattle.map_types.specs.declared.kind.DomainId.TheVariants.{Local, Global, CpuLru, Bucket, Freelist}
use Rattle.map_types.specs.ElementLists.{one, times}
use Rattle.map_types.specs.Kind.{is_lru}
use Rattle.map_types.proofs.RowLemmas.{times_append}
use Rattle.place_words.specs.declared.finals.Finals.{Finals}
use Rattle.place_words.specs.declared.owner.Owner.{Owner}
use Rattle.place_words.specs.declared.owner.Owner.TheVariants as owners
use Rattle.place_words.specs.Bodies.{numbers}
use Rattle.place_words.specs.Histories.{Content}
use Rattle.place_words.specs.Locks.{is_lock, is_same_lock, lock_named, lock_number}
use Rattle.place_words.specs.Logs.{State, lies_in, bucket_at, where_lock, finals_of}
use Rattle.place_words.specs.Openings.{is_free}
use Rattle.place_words.proofs.ListContents.{lies_locals, lies_globals, lies_own}
use Rattle.place_words.proofs.ListSums.{list_locks, sum_over, how_often}
use Rattle.place_words.proofs.LockLemmas.{named_by_number}
use Rattle.place_words.proofs.RestCounts.{free_on}
use Rattle.place_words.proofs.Settled.{elements_on}
use Rattle.place_words.specs.declared.step.Lists.{Lists}
use Rattle.place_words.specs.Places.{ElementPlace, under_lock, carried, lies_at, is_in_bucket, has_row, MayLie, MayLieUnder, MayOwn}
use Rattle.place_words.specs.State.{rows}
use Rattle.place_words.specs.Totals.{sum_below}
use Rattle.place_words.proofs.TotalLemmas.{sum_zero, sum_hit}
use Rattle.place_table.specs.Closing.{ClosedView, IsClosed, state_left}
use Rattle.place_table.specs.Contents.{lists_of}
use Rattle.place_table.specs.Passes.{PassView}
use Rattle.place_table.specs.Rules.{is_hand_of}
use Rattle.place_table.specs.Idle.{IsListLock}
use Rattle.place_table.proofs.ListLocks.{sum_where, sum_nothing, and_true, listed_here, once_of, lies_by, each_list_lock, home_once, all_as_lists}
use Rattle.map_report.specs.EachOnce.{in_buckets}
use Rattle.map_report.specs.Record.{HasListedElements}
use Rattle.map_report.proofs.ListedAtRest.{listed_by_counts}
use Rattle.run_records.proofs.RaceFinals.{lists_there, in_bucket_lists}

-- a free one of those that lie at a lock
and_grouped : (real free here : Bool) → one (real && (free && here)) ≡ one ((real && free) && here)
and_grouped true free here = refl
and_grouped false free here = refl

-- What lies under such a lock, as lists

free_as_lists : (shape : Shape) (state : State) (e : ℕ) (lock : DomainId) → IsListLock shape lock → free_on e (lies_in shape state lock) ≡ times e (lists_of (lies_in shape state lock)).free
free_as_lists shape state e (Local cpu) there = let here = lies_locals shape state cpu in ap (free_on e) here ∙ sym (ap (λ (c : Content). times e (lists_of c).free) here)
free_as_lists shape state e Global there = let here = lies_globals shape state in ap (free_on e) here ∙ sym (ap (λ (c : Content). times e (lists_of c).free) here)
free_as_lists shape state e (CpuLru cpu) there = let here = lies_own shape state cpu in ap (free_on e) here ∙ sym (ap (λ (c : Content). times e (lists_of c).free) here)
free_as_lists shape state e (Bucket bucket) there = absurd there
free_as_lists shape state e (Freelist cpu) there = absurd there

module _ (shape : Shape) (p : PassView) (closed : ClosedView) (ends : IsClosed shape p closed) (lru : is_lru shape.kind ≡ true)
    (empty_handed : (e c : ℕ) → c < shape.cpus → is_hand_of c (ends.core.owner e) ≡ false) where
  abbrev at_end : State
  at_end = state_left shape ends.log ends.core.bit p.spares

  -- How often an element is free and how often it stands under the lock of a list

  there : (lock : DomainId) → IsListLock shape lock → IsTrue (is_lock shape lock)
  there (Local cpu) is = is
  there Global is = is
  there (CpuLru cpu) is = is
  there (Bucket bucket) is = absurd is
  there (Freelist cpu) is = absurd is

  lies_of : (lock : DomainId) → IsListLock shape lock → lists_of (lies_in shape at_end lock) ≡ ends.core.lists (lock_number shape lock)
  lies_of lock is = sym (lists_there shape p closed ends lock (there lock is))

  row_of : (lock : DomainId) → IsListLock shape lock → (owner : Owner) (here : Bool) → has_row (is_lru shape.kind) lock owner here ≡ (not (is_free owner) && here)
  row_of (Local cpu) is owner here = ap (λ (evicts : Bool). evicts && (not (is_free owner) && here)) lru
  row_of Global is owner here = ap (λ (evicts : Bool). evicts && (not (is_free owner) && here)) lru
  row_of (CpuLru cpu) is owner here = ap (λ (evicts : Bool). evicts && (not (is_free owner) && here)) lru
  row_of (Bucket bucket) is owner here = absurd is
  row_of (Freelist cpu) is owner here = absurd is

  abbrev here : ℕ → DomainId → Bool
  here e lock = lies_at (lock_number shape lock) (ends.placed.place e)

  free_there : (e : ℕ) (lock : DomainId) → IsListLock shape lock → free_on e (lies_in shape at_end lock) ≡ one (ltb e shape.elements && (is_free (ends.core.owner e) && here e lock))
  free_there e lock is =
      free_as_lists shape at_end e lock is ∙ ap (λ (l : Lists). times e l.free) (lies_of lock is) ∙ ends.placed.placed.free (lock_number shape lock) e

  rows_there : (e : ℕ) (lock : DomainId) → IsListLock shape lock → times e (rows (ends.core.lists (lock_number shape lock))) ≡ one (ltb e shape.elements && (not (is_free (ends.core.owner e)) && here e lock))
  rows_there e lock is =
      ends.placed.placed.rows (lock_number shape lock) e
      ∙ ap (λ (l : DomainId). one (ltb e shape.elements && has_row (is_lru shape.kind) l (ends.core.owner e) (here e lock))) (named_by_number shape lock (there lock is))
      ∙ ap (λ (b : Bool). one (ltb e shape.elements && b)) (row_of lock is (ends.core.owner e) (here e lock))

  all_there : (e : ℕ) (lock : DomainId) → IsListLock shape lock → elements_on e (lies_in shape at_end lock) ≡ one (ltb e shape.elements && here e lock)
  all_there e lock is =
      all_as_lists e (lies_in shape at_end lock)
      ∙ ap (λ (l : Lists). times e (l.free ++ rows l)) (lies_of lock is)
      ∙ times_append e (ends.core.lists (lock_number shape lock)).free (rows (ends.core.lists (lock_number shape lock)))
      ∙ (λ i. ends.placed.placed.free (lock_number shape lock) e i + rows_there e lock is i)
      ∙ listed_here (ltb e shape.elements) (is_free (ends.core.owner e)) (here e lock)

  -- Over all of them

  module _ (e : ℕ) where
    abbrev owner : Owner
    owner = ends.core.owner e

    abbrev real : Bool
    real = ltb e shape.elements

    abbrev free_all : ℕ
    free_all = sum_over (free_on e) (lies_in shape at_end) (list_locks shape)

    abbrev listed_all : ℕ
    listed_all = sum_over (elements_on e) (lies_in shape at_end) (list_locks shape)

    -- the lock where it lies: no CPU carries it
    home : (place : ElementPlace) → ends.placed.place e ≡ place → MayOwn shape owner → MayLie shape e owner place → (k : ℕ) × (ends.placed.place e ≡ under_lock k) × MayLieUnder shape e (lock_named shape k)
    home (under_lock k) is own may = (k, is, may)
    home (carried cpu) is own may =
        let within : cpu < shape.cpus = subst (MayOwn shape) may.1 own in
        absurd (both_ways (is_hand_of cpu owner) (empty_handed e cpu within) (ap (is_hand_of cpu) may.1 ∙ eq-eqb cpu cpu refl))

    here_is : (k : ℕ) → ends.placed.place e ≡ under_lock k → (lock : DomainId) → IsListLock shape lock → here e lock ≡ is_same_lock (lock_named shape k) lock
    here_is k is lock list = ap (lies_at (lock_number shape lock)) is ∙ lies_by shape k lock (there lock list)

    -- a sum over the locks of what is there of it
    counted : (f : Content → ℕ) (some : Bool) → ((lock : DomainId) → IsListLock shape lock → f (lies_in shape at_end lock) ≡ one ((real && some) && here e lock)) → sum_over f (lies_in shape at_end) (list_locks shape) ≡ one (real && some)
    counted f some each =
        ⊎_elim
        (λ (within : e < shape.elements).
        let at = home (ends.placed.place e) refl (ends.placed.placed.owners e within) (ends.placed.placed.places e within) in
        sum_where f (lies_in shape at_end) (lock_named shape at.0) (real && some) (list_locks shape)
        (each_list_lock shape lru (λ (lock : DomainId). f (lies_in shape at_end lock) ≡ one ((real && some) && is_same_lock (lock_named shape at.0) lock))
        (λ lock list. each lock list ∙ ap (λ (b : Bool). one ((real && some) && b)) (here_is at.0 at.1 lock list)))
        ∙ once_of (real && some) (how_often (lock_named shape at.0) (list_locks shape)) (home_once shape lru e (lock_named shape at.0) at.2))
        (λ (past : shape.elements ≤ e).
        let beyond : real ≡ false = le-ltb e shape.elements past in
        sum_nothing f (lies_in shape at_end) (list_locks shape)
        (each_list_lock shape lru (λ (lock : DomainId). f (lies_in shape at_end lock) ≡ 0) (λ lock list. each lock list ∙ ap (λ (b : Bool). one ((b && some) && here e lock)) beyond))
        ∙ sym (ap (λ (b : Bool). one (b && some)) beyond))
        (cases_lt e shape.elements)

    free_count : free_all ≡ one (real && is_free owner)
    free_count = counted (free_on e) (is_free owner) (λ lock list. free_there e lock list ∙ and_grouped real (is_free owner) (here e lock))

    listed_count : listed_all ≡ one real
    listed_count = counted (elements_on e) true (λ lock list. all_there e lock list ∙ ap (λ (b : Bool). one (b && here e lock)) (sym (and_true real))) ∙ ap one (and_true real)

    -- where no CPU has it in hand, it is in one bucket or free
    in_bucket_or_free : (o : Owner) → MayOwn shape o → ((c : ℕ) → c < shape.cpus → is_hand_of c o ≡ false) → sum_below shape.buckets (λ b. one (is_in_bucket b o)) + one (is_free o) ≡ 1
    in_bucket_or_free owners.Free own out = let buckets = sum_zero shape.buckets in omega (arith, buckets)
    in_bucket_or_free (owners.Bucket bucket) own out = let buckets = sum_hit shape.buckets bucket own in omega (arith, buckets)
    in_bucket_or_free (owners.Hand cpu) own out = absurd (both_ways (eqb cpu cpu) (out cpu own) (eq-eqb cpu cpu refl))

    of_the_map : (is_real : Bool) → (is_real ≡ true → sum_below shape.buckets (λ b. one (is_in_bucket b owner)) + one (is_free owner) ≡ 1)
        → sum_below shape.buckets (λ b. one (is_real && is_in_bucket b owner)) + one (is_real && is_free owner) ≡ one is_real
    of_the_map true is = is refl
    of_the_map false is = let buckets = sum_zero shape.buckets in omega (arith, buckets)

    in_the_buckets : times e (flat_map numbers (where_lock shape Bucket (bucket_at shape at_end) (range_with_len 0 shape.buckets))) ≡ sum_below shape.buckets (λ b. one (real && is_in_bucket b owner))
    unfolding finals_of
    in_the_buckets = ap (λ (lists : Finals). times e (in_buckets lists)) (sym ends.left.finals_are) ∙ in_bucket_lists shape p closed ends e

    in_one_place : times e (flat_map numbers (where_lock shape Bucket (bucket_at shape at_end) (range_with_len 0 shape.buckets))) + free_all ≡ one real
    in_one_place =
        let owned = of_the_map real (λ is. in_bucket_or_free owner (ends.placed.placed.owners e (ltb-true e shape.elements is)) (empty_handed e)) in
        omega (arith, in_the_buckets, free_count, owned)

  pub listed_left : closed.finals.spares ≡ [] → HasListedElements shape closed.finals
  unfolding finals_of
  listed_left none =
      subst (HasListedElements shape) (sym ends.left.finals_are)
      (listed_by_counts shape lru at_end in_one_place listed_count (ap (λ (lists : Finals). lists.spares) (sym ends.left.finals_are) ∙ none))
