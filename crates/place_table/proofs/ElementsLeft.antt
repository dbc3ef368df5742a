-- What a closed table leaves holds each element once, in one place, and on a map that evicts on one list.
use Rattle.std.proofs.Common.{◌≡◌, ℕ, zero, suc, ◌+◌, ◌<◌, ◌≤◌, Bool, true, false, cond, not, ◌&&◌, eqb, ltb, List, [], ◌∷◌, ◌++◌, Option, Some, None, refl, ap, sym, ◌∙◌, subst, ⊎_elim, arith}
use Rattle.std.specs.Prelude.{IsTrue, All, option_map, option_to_list}
use Rattle.std.specs.List.{concat, flat_map, range_with_len}
use Rattle.std.proofs.lemmas.Bool.{cases_lt, eq-eqb, ne_eqb, eqb-true, eqb-false, lt-ltb, le-ltb, ltb-true, and_parts}
use Rattle.std.proofs.lemmas.List.Elements.{All-nil, All-cons, All-weaker, All-filter}
use Rattle.map_types.specs.declared.attr.Shape.{Shape}
use Rattle.map_types.specs.declared.kind.DomainId.{DomainId}
use Rattle.map_types.specs.declared.kind.DomainId.TheVariants.{Local, Global, CpuLru, Bucket, Freelist}
use Rattle.map_types.specs.declared.kind.MapKind.TheVariants.{Hash}
use Rattle.map_types.specs.ElementLists.{one, times}
use Rattle.map_types.specs.Kind.{is_lru}
use Rattle.map_types.specs.Shape.{HasBounds}
use Rattle.map_types.specs.Stored.{Stored}
use Rattle.map_types.proofs.RowLemmas.{by_test, times_append}
use Rattle.place_words.specs.declared.finals.LocalFinal.{LocalFinal}
use Rattle.place_words.specs.declared.finals.SetFinal.{SetFinal}
use Rattle.place_words.specs.declared.history.Entry.{Entry}
use Rattle.place_words.specs.declared.owner.Owner.{Owner}
use Rattle.place_words.specs.declared.owner.Owner.TheVariants as owners
use Rattle.place_words.specs.declared.step.Lists.{Lists}
use Rattle.place_words.specs.Bodies.{numbers}
use Rattle.place_words.specs.Histories.{Content, content}
use Rattle.place_words.specs.Locks.{is_lock, is_same_lock, lock_named, lock_number, lock_count, first_freelist}
use Rattle.place_words.specs.Logs.{State, lies_in, bucket_at, freelist_at, locals_at, globals_at, own_at, final_set, final_local, where_lock, finals_of}
use Rattle.place_words.specs.Openings.{is_free}
use Rattle.place_words.specs.Places.{ElementPlace, under_lock, carried, lies_at, is_in_bucket, has_row, MayLie, MayLieUnder, MayOwn, Placed}
use Rattle.place_words.specs.State as cores
use Rattle.place_words.specs.State.{rows}
use Rattle.place_words.specs.Totals.{sum_below}
use Rattle.place_words.proofs.DoneLaws.{lies_a_bucket, lies_a_freelist}
use Rattle.place_words.proofs.ListContents.{lies_locals, lies_globals, lies_own}
use Rattle.place_words.proofs.ListSums.{list_locks, sum_over, how_often}
use Rattle.place_words.proofs.LockLemmas.{named_by_number, number_of_named, number_within}
use Rattle.place_words.proofs.RestCounts.{sum_first, range_first, told_none, told_sum, free_on, lists_told}
use Rattle.place_words.proofs.Settled.{elements_on}
use Rattle.place_words.proofs.TotalLemmas.{sum_same, sum_zero, sum_hit, bucket_list}
use Rattle.place_table.specs.Closing.{has_lock, state_left}
use Rattle.place_table.specs.Contents.{lists_of}
use Rattle.place_table.specs.Elements.{HoldsEachOnce}
use Rattle.place_table.specs.Idle.{IsListLock}
use Rattle.place_table.specs.Passes.{spare_of}
use Rattle.place_table.specs.Rules.{is_hand_of}
use Rattle.place_table.proofs.FirstSlots.{not_common}
use Rattle.place_table.proofs.ListLocks.{sum_where, sum_nothing, and_true, listed_here, once_of, lies_by, each_list_lock, home_once, all_as_lists}
use Rattle.place_table.proofs.Worlds.{by_bool, none_some, some_is, true_false}

-- Sums and ranges

sums_alike : (f : ℕ → ℕ) (n : ℕ) → sum_first f n ≡ sum_below n f
sums_alike f zero = refl
sums_alike f (suc n) = let rest = sums_alike f n in omega arith

shifted : (a x y : ℕ) → eqb (a + x) (a + y) ≡ eqb x y
shifted a x y =
    by_bool (eqb x y) (λ b. eqb x y ≡ b → eqb (a + x) (a + y) ≡ b)
    (λ _ is. eq-eqb (a + x) (a + y) (ap (λ n. a + n) (eqb-true x y is)))
    (λ _ is. ne_eqb (a + x) (a + y) (λ same. eqb-false x y is (omega arith))) refl

all_to : (a n : ℕ) → All (λ (e : ℕ). e < a + n) (range_with_len a n)
all_to a zero = All-nil (λ (e : ℕ). e < a + 0)
all_to a (suc n) =
    All-cons (λ (e : ℕ). e < a + suc n) a (range_with_len (a + 1) n) (omega arith)
    (All-weaker (λ (e : ℕ). e < (a + 1) + n) (λ (e : ℕ). e < a + suc n) (λ e less. omega (arith, less)) (range_with_len (a + 1) n) (all_to (a + 1) n))

lists_joined : (lists : List (List ℕ)) → concat lists ≡ flat_map (λ (list : List ℕ). list) lists
lists_joined [] = refl
lists_joined (list ∷ lists) = ap (λ (rest : List ℕ). list ++ rest) (lists_joined lists)

nothing : (b : Bool) → one (b && false) ≡ 0
nothing true = refl
nothing false = refl

-- a free one of those that lie at a lock
and_grouped : (real free here : Bool) → one (real && (free && here)) ≡ one ((real && free) && here)
and_grouped true free here = refl
and_grouped false free here = refl

-- What lies under the lock of a list, as lists
free_as_lists : (shape : Shape) (state : State) (e : ℕ) (lock : DomainId) → IsListLock shape lock → free_on e (lies_in shape state lock) ≡ times e (lists_of (lies_in shape state lock)).free
free_as_lists shape state e (Local cpu) there = let here = lies_locals shape state cpu in ap (free_on e) here ∙ sym (ap (λ (c : Content). times e (lists_of c).free) here)
free_as_lists shape state e Global there = let here = lies_globals shape state in ap (free_on e) here ∙ sym (ap (λ (c : Content). times e (lists_of c).free) here)
free_as_lists shape state e (CpuLru cpu) there = let here = lies_own shape state cpu in ap (free_on e) here ∙ sym (ap (λ (c : Content). times e (lists_of c).free) here)
free_as_lists shape state e (Bucket bucket) there = absurd there
free_as_lists shape state e (Freelist cpu) there = absurd there

is_there : (shape : Shape) (lock : DomainId) → IsListLock shape lock → IsTrue (is_lock shape lock)
is_there shape (Local cpu) is = is
is_there shape Global is = is
is_there shape (CpuLru cpu) is = is
is_there shape (Bucket bucket) is = absurd is
is_there shape (Freelist cpu) is = absurd is

row_of : (lru : Bool) (shape : Shape) (lock : DomainId) → lru ≡ true → IsListLock shape lock → (owner : Owner) (here : Bool) → has_row lru lock owner here ≡ (not (is_free owner) && here)
row_of lru shape (Local cpu) evicts is owner here = ap (λ (b : Bool). b && (not (is_free owner) && here)) evicts
row_of lru shape Global evicts is owner here = ap (λ (b : Bool). b && (not (is_free owner) && here)) evicts
row_of lru shape (CpuLru cpu) evicts is owner here = ap (λ (b : Bool). b && (not (is_free owner) && here)) evicts
row_of lru shape (Bucket bucket) evicts is owner here = absurd is
row_of lru shape (Freelist cpu) evicts is owner here = absurd is

-- on a map that doesn't evict what is free lies under the lock of one freelist
module _ (shape : Shape) (bounds : HasBounds shape) (plain : is_lru shape.kind ≡ false) where
  shares_none : {X : Type 0} → IsTrue shape.common → X
  shares_none common = true_false (sym common ∙ not_common shape bounds plain)

  under_one : (e k : ℕ) (lock : DomainId) → lock_named shape k ≡ lock → MayLieUnder shape e lock → sum_below shape.cpus (λ c. one (eqb k (lock_number shape (Freelist c)))) ≡ 1
  under_one e k (Local cpu) named under = shares_none (and_parts shape.common (ltb cpu shape.cpus) under).0
  under_one e k Global named under = shares_none under
  under_one e k (CpuLru cpu) named under =
      let evicts = (and_parts (is_lru shape.kind) (not shape.common) (and_parts (is_lru shape.kind && not shape.common) (ltb cpu shape.cpus) under.0).0).0 in
      true_false (sym evicts ∙ plain)
  under_one e k (Bucket bucket) named under = absurd under
  under_one e k (Freelist cpu) named under =
      let real : cpu < shape.cpus = ltb-true cpu shape.cpus (and_parts (not (is_lru shape.kind)) (ltb cpu shape.cpus) under).1 in
      let number : k ≡ lock_number shape (Freelist cpu) = sym (number_of_named shape k) ∙ ap (lock_number shape) named in
      sum_same shape.cpus (λ c. one (eqb k (lock_number shape (Freelist c)))) (λ c. one (eqb cpu c)) (λ c below. ap (λ n. one (eqb n (lock_number shape (Freelist c)))) number ∙ ap one (shifted (first_freelist shape) cpu c))
      ∙ sum_hit shape.cpus cpu real

  free_place : (e : ℕ) (owner : Owner) (place : ElementPlace) → MayLie shape e owner place → sum_below shape.cpus (λ c. one (lies_at (lock_number shape (Freelist c)) place)) ≡ 1
  free_place e owner (under_lock k) may = under_one e k (lock_named shape k) refl may
  free_place e owner (carried cpu) may = shares_none may.0

  free_once : (e : ℕ) (real : Bool) (owner : Owner) (place : ElementPlace) → (real ≡ true → MayLie shape e owner place) → sum_below shape.cpus (λ c. one (real && (is_free owner && lies_at (lock_number shape (Freelist c)) place))) ≡ one (real && is_free owner)
  free_once e false owner place may = sum_zero shape.cpus
  free_once e true owners.Free place may = free_place e owners.Free place (may refl)
  free_once e true (owners.Bucket bucket) place may = sum_zero shape.cpus
  free_once e true (owners.Hand cpu) place may = sum_zero shape.cpus

-- an element of the map is in a bucket, free or in a hand
in_one_of : (shape : Shape) (real : Bool) (owner : Owner) → (real ≡ true → MayOwn shape owner)
    → sum_below shape.buckets (λ b. one (real && is_in_bucket b owner)) + (one (real && is_free owner) + sum_below shape.cpus (λ c. one (real && is_hand_of c owner))) ≡ one real
in_one_of shape false owner own = let buckets = sum_zero shape.buckets in let hands = sum_zero shape.cpus in omega (arith, buckets, hands)
in_one_of shape true owners.Free own = let buckets = sum_zero shape.buckets in let hands = sum_zero shape.cpus in omega (arith, buckets, hands)
in_one_of shape true (owners.Bucket bucket) own = let buckets = sum_hit shape.buckets bucket (own refl) in let hands = sum_zero shape.cpus in omega (arith, buckets, hands)
in_one_of shape true (owners.Hand cpu) own = let buckets = sum_zero shape.buckets in let hands = sum_hit shape.cpus cpu (own refl) in omega (arith, buckets, hands)

-- a CPU has its spare in hand, and nothing else; only on HASH it has one
pub record IsSpare (shape : Shape) (spares : List (Option Stored)) (e c : ℕ) : Type 0 where
  pub body : Stored
  pub kept : spare_of c spares ≡ Some body
  pub element : body.element ≡ e
  pub hash : shape.kind ≡ Hash

-- A state in which nobody holds a lock, with the turns of all locks that lead to it: what the map holds.
module _ (shape : Shape) (bounds : HasBounds shape) (log : ℕ → List Entry) (core : cores.State) (placed : Placed shape core)
    (lists_are : (k : ℕ) → k < lock_count shape → IsTrue (has_lock shape k) → core.lists k ≡ lists_of (content shape (lock_named shape k) (log k)))
    (bit : ℕ → Bool) (spares : List (Option Stored)) (in_hand : (e c : ℕ) → c < shape.cpus → is_hand_of c (core.owner e) ≡ true → IsSpare shape spares e c)
    (spare_held : (c : ℕ) (body : Stored) → spare_of c spares ≡ Some body → (body.element < shape.elements) × (is_hand_of c (core.owner body.element) ≡ true)) where
  abbrev now : State
  now = state_left shape log bit spares

  lists_there : (lock : DomainId) → IsTrue (is_lock shape lock) → core.lists (lock_number shape lock) ≡ lists_of (lies_in shape now lock)
  lists_there lock there =
      let k : ℕ = lock_number shape lock in
      let named = named_by_number shape lock there in
      lists_are k (number_within shape lock there) (ap (is_lock shape) named ∙ there) ∙ ap (λ (d : DomainId). lists_of (content shape d (log k))) named

  abbrev bodies : List ℕ
  bodies = flat_map numbers (where_lock shape Bucket (bucket_at shape now) (range_with_len 0 shape.buckets))

  abbrev spares_told : List ℕ
  spares_told = flat_map (λ cpu. option_to_list (now.spares cpu)) (range_with_len 0 shape.cpus)

  -- an element: whether it is the map's, and its owner
  module _ (e : ℕ) where
    abbrev real : Bool
    real = ltb e shape.elements

    abbrev owner : Owner
    owner = core.owner e

    may_own : real ≡ true → MayOwn shape owner
    may_own is = placed.placed.owners e (ltb-true e shape.elements is)

    may_lie : real ≡ true → MayLie shape e owner (placed.place e)
    may_lie is = placed.placed.places e (ltb-true e shape.elements is)

    -- Buckets
    bucket_told : (b : ℕ) → b < shape.buckets → times e (numbers (bucket_at shape now b)) ≡ one (real && is_in_bucket b owner)
    bucket_told b below =
        let same : (core.lists (lock_number shape (Bucket b))).first ≡ numbers (bucket_at shape now b) =
        ap (λ (l : Lists). l.first) (lists_there (Bucket b) (lt-ltb b shape.buckets below)) ∙ ap (λ (c : Content). (lists_of c).first) (lies_a_bucket shape now b) in
        ap (times e) (sym same) ∙ bucket_list shape core placed b e below

    in_the_buckets : times e bodies ≡ sum_below shape.buckets (λ b. one (real && is_in_bucket b owner))
    in_the_buckets =
        told_sum shape Bucket (bucket_at shape now) numbers shape.buckets e (λ k below. lt-ltb k shape.buckets below)
        ∙ (sums_alike (λ b. times e (numbers (bucket_at shape now b))) shape.buckets
        ∙ sum_same shape.buckets (λ b. times e (numbers (bucket_at shape now b))) (λ b. one (real && is_in_bucket b owner)) bucket_told)

    -- Spares
    spare_told : (c : ℕ) → c < shape.cpus → (found : Option Stored) → spare_of c spares ≡ found → times e (option_to_list (option_map (λ (body : Stored). body.element) found)) ≡ one (real && is_hand_of c owner)
    spare_told c below None is =
        by_bool (is_hand_of c owner) (λ b. is_hand_of c owner ≡ b → 0 ≡ one (real && b))
        (λ _ held. absurd (none_some (sym is ∙ (in_hand e c below held).kept))) (λ _ _. sym (nothing real)) refl
    spare_told c below (Some body) is =
        by_test body.element e (λ b. cond b 1 0 ≡ one (real && is_hand_of c owner))
        (λ same.
        let held = spare_held c body is in
        let first : real ≡ true = lt-ltb e shape.elements (subst (λ (x : ℕ). x < shape.elements) same held.0) in
        let second : is_hand_of c owner ≡ true = subst (λ (x : ℕ). is_hand_of c (core.owner x) ≡ true) same held.1 in
        let both : one (real && is_hand_of c owner) ≡ 1 = (λ i. one (first i && second i)) in
        sym both)
        (λ other.
        by_bool (is_hand_of c owner) (λ b. is_hand_of c owner ≡ b → 0 ≡ one (real && b))
        (λ _ held. let kept = in_hand e c below held in absurd (other (ap (λ (x : Stored). x.element) (some_is (sym is ∙ kept.kept)) ∙ kept.element)))
        (λ _ _. sym (nothing real)) refl)

    in_spares : times e spares_told ≡ sum_below shape.cpus (λ c. one (real && is_hand_of c owner))
    in_spares =
        range_first (λ c. times e (option_to_list (now.spares c))) (λ xs. times e (flat_map (λ cpu. option_to_list (now.spares cpu)) xs)) shape.cpus refl (λ x xs. times_append e (option_to_list (now.spares x)) (flat_map (λ cpu. option_to_list (now.spares cpu)) xs))
        ∙ (sums_alike (λ c. times e (option_to_list (now.spares c))) shape.cpus
        ∙ sum_same shape.cpus (λ c. times e (option_to_list (now.spares c))) (λ c. one (real && is_hand_of c owner)) (λ c below. spare_told c below (spare_of c spares) refl))

    -- Freelists
    module _ (plain : is_lru shape.kind ≡ false) where
      has_freelist : (c : ℕ) → c < shape.cpus → is_lock shape (Freelist c) ≡ true
      has_freelist c below = (λ i. not (plain i) && lt-ltb c shape.cpus below i)

      freelist_told : (c : ℕ) → c < shape.cpus → times e (freelist_at shape now c) ≡ one (real && (is_free owner && lies_at (lock_number shape (Freelist c)) (placed.place e)))
      freelist_told c below =
          let same : (core.lists (lock_number shape (Freelist c))).free ≡ freelist_at shape now c =
          ap (λ (l : Lists). l.free) (lists_there (Freelist c) (has_freelist c below)) ∙ ap (λ (x : Content). (lists_of x).free) (lies_a_freelist shape now c) in
          ap (times e) (sym same) ∙ placed.placed.free (lock_number shape (Freelist c)) e

      on_freelists : times e (concat (where_lock shape Freelist (freelist_at shape now) (range_with_len 0 shape.cpus))) ≡ one (real && is_free owner)
      on_freelists =
          ap (times e) (lists_joined (where_lock shape Freelist (freelist_at shape now) (range_with_len 0 shape.cpus)))
          ∙ (told_sum shape Freelist (freelist_at shape now) (λ (list : List ℕ). list) shape.cpus e has_freelist
          ∙ (sums_alike (λ c. times e (freelist_at shape now c)) shape.cpus
          ∙ (sum_same shape.cpus (λ c. times e (freelist_at shape now c)) (λ c. one (real && (is_free owner && lies_at (lock_number shape (Freelist c)) (placed.place e)))) freelist_told
          ∙ free_once shape bounds plain e real owner (placed.place e) may_lie)))

    -- Lists of a map that evicts
    module _ (lru : is_lru shape.kind ≡ true) where
      empty_handed : (c : ℕ) → c < shape.cpus → is_hand_of c owner ≡ false
      empty_handed c below =
          by_bool (is_hand_of c owner) (λ b. is_hand_of c owner ≡ b → b ≡ false)
          (λ _ held. true_false (sym lru ∙ ap is_lru (in_hand e c below held).hash)) (λ _ _. refl) refl

      abbrev here : DomainId → Bool
      here lock = lies_at (lock_number shape lock) (placed.place e)

      free_there : (lock : DomainId) → IsListLock shape lock → free_on e (lies_in shape now lock) ≡ one (real && (is_free owner && here lock))
      free_there lock is =
          free_as_lists shape now e lock is ∙ (ap (λ (l : Lists). times e l.free) (sym (lists_there lock (is_there shape lock is))) ∙ placed.placed.free (lock_number shape lock) e)

      rows_there : (lock : DomainId) → IsListLock shape lock → times e (rows (core.lists (lock_number shape lock))) ≡ one (real && (not (is_free owner) && here lock))
      rows_there lock is =
          placed.placed.rows (lock_number shape lock) e
          ∙ (ap (λ (l : DomainId). one (real && has_row (is_lru shape.kind) l owner (here lock))) (named_by_number shape lock (is_there shape lock is))
          ∙ ap (λ (b : Bool). one (real && b)) (row_of (is_lru shape.kind) shape lock lru is owner (here lock)))

      all_there : (lock : DomainId) → IsListLock shape lock → elements_on e (lies_in shape now lock) ≡ one (real && here lock)
      all_there lock is =
          all_as_lists e (lies_in shape now lock)
          ∙ (ap (λ (l : Lists). times e (l.free ++ rows l)) (sym (lists_there lock (is_there shape lock is)))
          ∙ (times_append e (core.lists (lock_number shape lock)).free (rows (core.lists (lock_number shape lock)))
          ∙ ((λ i. placed.placed.free (lock_number shape lock) e i + rows_there lock is i)
          ∙ listed_here real (is_free owner) (here lock))))

      -- the lock where it lies: no CPU carries it
      home : (place : ElementPlace) → placed.place e ≡ place → MayOwn shape owner → MayLie shape e owner place → (k : ℕ) × (placed.place e ≡ under_lock k) × MayLieUnder shape e (lock_named shape k)
      home (under_lock k) is own may = (k, is, may)
      home (carried cpu) is own may =
          let within : cpu < shape.cpus = subst (MayOwn shape) may.1 own in
          true_false (sym (ap (is_hand_of cpu) may.1 ∙ eq-eqb cpu cpu refl) ∙ empty_handed cpu within)

      here_is : (k : ℕ) → placed.place e ≡ under_lock k → (lock : DomainId) → IsListLock shape lock → here lock ≡ is_same_lock (lock_named shape k) lock
      here_is k is lock list = ap (lies_at (lock_number shape lock)) is ∙ lies_by shape k lock (is_there shape lock list)

      -- a sum over the locks of what is there of it
      counted : (f : Content → ℕ) (some : Bool) → ((lock : DomainId) → IsListLock shape lock → f (lies_in shape now lock) ≡ one ((real && some) && here lock)) → sum_over f (lies_in shape now) (list_locks shape) ≡ one (real && some)
      counted f some each =
          ⊎_elim
          (λ (within : e < shape.elements).
          let is : real ≡ true = lt-ltb e shape.elements within in
          let at = home (placed.place e) refl (may_own is) (may_lie is) in
          sum_where f (lies_in shape now) (lock_named shape at.0) (real && some) (list_locks shape)
          (each_list_lock shape lru (λ (lock : DomainId). f (lies_in shape now lock) ≡ one ((real && some) && is_same_lock (lock_named shape at.0) lock))
          (λ lock list. each lock list ∙ ap (λ (b : Bool). one ((real && some) && b)) (here_is at.0 at.1 lock list)))
          ∙ once_of (real && some) (how_often (lock_named shape at.0) (list_locks shape)) (home_once shape lru e (lock_named shape at.0) at.2))
          (λ (past : shape.elements ≤ e).
          let beyond : real ≡ false = le-ltb e shape.elements past in
          sum_nothing f (lies_in shape now) (list_locks shape)
          (each_list_lock shape lru (λ (lock : DomainId). f (lies_in shape now lock) ≡ 0) (λ lock list. each lock list ∙ ap (λ (b : Bool). one ((b && some) && here lock)) beyond))
          ∙ sym (ap (λ (b : Bool). one (b && some)) beyond))
          (cases_lt e shape.elements)

      free_count : sum_over (free_on e) (lies_in shape now) (list_locks shape) ≡ one (real && is_free owner)
      free_count = counted (free_on e) (is_free owner) (λ lock list. free_there lock list ∙ and_grouped real (is_free owner) (here lock))

      listed_count : sum_over (elements_on e) (lies_in shape now) (list_locks shape) ≡ one real
      listed_count = counted (elements_on e) true (λ lock list. all_there lock list ∙ ap (λ (b : Bool). one (b && here lock)) (sym (and_true real))) ∙ ap one (and_true real)

  -- The lists that are told

  abbrev set_lists : List SetFinal
  set_lists =
      where_lock shape (λ (one : ℕ). Global) (λ (one : ℕ). final_set (globals_at shape now)) (range_with_len 0 1)
      ++ where_lock shape CpuLru (λ cpu. final_set (own_at shape now cpu)) (range_with_len 0 shape.cpus)

  abbrev local_lists : List LocalFinal
  local_lists = where_lock shape Local (λ cpu. final_local (locals_at shape now cpu)) (range_with_len 0 shape.cpus)

  abbrev freelists : List (List ℕ)
  freelists = where_lock shape Freelist (freelist_at shape now) (range_with_len 0 shape.cpus)

  abbrev free_told : List ℕ
  free_told = flat_map (λ (set : SetFinal). set.free) set_lists ++ flat_map (λ (local : LocalFinal). local.free) local_lists

  no_lists : is_lru shape.kind ≡ false → free_told ≡ []
  no_lists plain =
      let apart = not_common shape bounds plain in
      let globals : where_lock shape (λ (one : ℕ). Global) (λ (one : ℕ). final_set (globals_at shape now)) (range_with_len 0 1) ≡ [] = told_none shape (λ (one : ℕ). Global) (λ (one : ℕ). final_set (globals_at shape now)) (range_with_len 0 1) (λ k. apart) in
      let own : where_lock shape CpuLru (λ cpu. final_set (own_at shape now cpu)) (range_with_len 0 shape.cpus) ≡ [] = told_none shape CpuLru (λ cpu. final_set (own_at shape now cpu)) (range_with_len 0 shape.cpus) (λ k. ap (λ (b : Bool). (b && not shape.common) && ltb k shape.cpus) plain) in
      let locals : local_lists ≡ [] = told_none shape Local (λ cpu. final_local (locals_at shape now cpu)) (range_with_len 0 shape.cpus) (λ k. ap (λ (b : Bool). b && ltb k shape.cpus) apart) in
      (λ i. flat_map (λ (set : SetFinal). set.free) (globals i ++ own i) ++ flat_map (λ (local : LocalFinal). local.free) (locals i))

  free_all : (e : ℕ) → times e (concat freelists ++ free_told) ≡ one (ltb e shape.elements && is_free (core.owner e))
  free_all e =
      by_bool (is_lru shape.kind) (λ b. is_lru shape.kind ≡ b → times e (concat freelists ++ free_told) ≡ one (ltb e shape.elements && is_free (core.owner e)))
      (λ _ lru.
      let none : freelists ≡ [] = told_none shape Freelist (freelist_at shape now) (range_with_len 0 shape.cpus) (λ k. ap (λ (b : Bool). not b && ltb k shape.cpus) lru) in
      ap (λ (l : List (List ℕ)). times e (concat l ++ free_told)) none
      ∙ (lists_told shape lru (lies_in shape now) (free_on e) e (λ (one : ℕ). final_set (globals_at shape now)) (λ cpu. final_set (own_at shape now cpu)) (λ cpu. final_local (locals_at shape now cpu))
      (λ (set : SetFinal). set.free) (λ (local : LocalFinal). local.free)
      (λ one. sym (ap (free_on e) (lies_globals shape now))) (λ cpu. sym (ap (free_on e) (lies_own shape now cpu))) (λ cpu. sym (ap (free_on e) (lies_locals shape now cpu)))
      ∙ free_count e lru))
      (λ _ plain.
      let both = times_append e (concat freelists) free_told in
      let none : times e free_told ≡ 0 = ap (times e) (no_lists plain) in
      omega (arith, both, none, on_freelists e plain))
      refl

  listed_all : is_lru shape.kind ≡ true → (e : ℕ) → times e (flat_map (λ (set : SetFinal). set.free ++ (set.active ++ set.inactive)) set_lists ++ flat_map (λ (local : LocalFinal). local.free ++ local.pending) local_lists) ≡ one (ltb e shape.elements)
  listed_all lru e =
      lists_told shape lru (lies_in shape now) (elements_on e) e (λ (one : ℕ). final_set (globals_at shape now)) (λ cpu. final_set (own_at shape now cpu)) (λ cpu. final_local (locals_at shape now cpu))
      (λ (set : SetFinal). set.free ++ (set.active ++ set.inactive)) (λ (local : LocalFinal). local.free ++ local.pending)
      (λ one. sym (ap (elements_on e) (lies_globals shape now))) (λ cpu. sym (ap (elements_on e) (lies_own shape now cpu))) (λ cpu. sym (ap (elements_on e) (lies_locals shape now cpu)))
      ∙ listed_count e lru

  placed_all : (e : ℕ) → times e (bodies ++ ((concat freelists ++ free_told) ++ spares_told)) ≡ one (ltb e shape.elements)
  placed_all e =
      let first = times_append e bodies ((concat freelists ++ free_told) ++ spares_told) in
      let second = times_append e (concat freelists ++ free_told) spares_told in
      omega (arith, first, second, in_the_buckets e, free_all e, in_spares e, in_one_of shape (ltb e shape.elements) (core.owner e) (may_own e))

  pub each_once : HoldsEachOnce shape (finals_of shape now)
  unfolding finals_of
  each_once = record {
    in_one_place = placed_all;
    on_one_list = listed_all;
    marked = All-filter bit (λ (e : ℕ). e < shape.elements) (range_with_len 0 shape.elements)
        (All-weaker (λ (e : ℕ). e < 0 + shape.elements) (λ (e : ℕ). e < shape.elements) (λ e less. omega (arith, less)) (range_with_len 0 shape.elements) (all_to 0 shape.elements));
  }
