-- A turn of a map whose CPUs have lists of their own, in a state in which under each lock lies what its turns left.
use Rattle.std.proofs.Common.{◌≡◌, inl, inr, ℕ, ◌+◌, ◌<◌, ◌≤◌, Bool, true, false, ◌&&◌, not, cond, ltb, List, [], ◌∷◌, ◌++◌, reverse, drop, Option, None, Some, refl, ap, ◌∙◌, sym, subst, ⊎_elim, arith}
use Rattle.std.specs.Prelude.{IsTrue, option_to_list, slice_get}
use Rattle.std.proofs.lemmas.Bool.{cases_lt, or_cases, true≢false, and_parts}
use Rattle.map_types.specs.declared.attr.Shape.{Shape}
use Rattle.map_types.specs.declared.kind.DomainId.{DomainId}
use Rattle.map_types.specs.declared.kind.DomainId.TheVariants.{Local, CpuLru, Bucket, Freelist}
use Rattle.map_types.specs.declared.row.Row.{Row}
use Rattle.map_types.specs.ElementLists.{one, times, IsIn}
use Rattle.map_types.specs.Kind.{is_lru}
use Rattle.map_types.specs.Listed.{elements_of}
use Rattle.map_types.specs.Shape.{HasBounds}
use Rattle.map_types.specs.Stored.{Stored}
use Rattle.map_types.proofs.RowLemmas.{by_test, times_append}
use Rattle.place_words.specs.declared.bucket_part.BucketPart.{BucketPart}
use Rattle.place_words.specs.declared.bucket_part.BucketPart.TheVariants.{Lookup, Update, Delete, Take, First, Walk, Evict}
use Rattle.place_words.specs.declared.bucket_part.BucketPart.TheVariants as bucket_parts
use Rattle.place_words.specs.declared.bucket_part.Put.TheVariants as puts
use Rattle.place_words.specs.declared.history.Part.{Part}
use Rattle.place_words.specs.declared.history.Part.TheVariants as parts
use Rattle.place_words.specs.declared.home.Home.TheVariants as homes
use Rattle.place_words.specs.declared.list_part.OwnPart.{OwnPart}
use Rattle.place_words.specs.declared.list_part.OwnPart.TheVariants as own
use Rattle.place_words.specs.declared.owner.Owner.TheVariants as owners
use Rattle.place_words.specs.declared.step.Lists.{Lists}
use Rattle.place_words.specs.declared.visits.ShrinkNote.{ShrinkNote}
use Rattle.place_words.specs.declared.visits.Visit.{Visit}
use Rattle.place_words.specs.Bodies.{numbers, present}
use Rattle.place_words.specs.Buckets.{AllowsInBucket}
use Rattle.place_words.specs.Histories.{Content, Allows, in_own, in_bucket, on_freelist, in_locals, in_global}
use Rattle.place_words.specs.Interleaving.{set_lists, lists_in, part_steps, seen_by}
use Rattle.place_words.specs.Locks.{is_lock, lock_number, lock_named}
use Rattle.place_words.specs.Moves.{elements_in, taken_from_bucket}
use Rattle.place_words.specs.Openings.{is_free}
use Rattle.place_words.specs.Places.{Placed, ElementPlace, under_lock, carried, home_of_place, has_row, lies_at, MayLie}
use Rattle.place_words.specs.Sets.{ListSet, AllowsOnOwn, own_after, own_scans, given_out, rotated_set, row_with, shrunk_into_free, is_listed}
use Rattle.place_words.specs.State.{State, rows}
use Rattle.place_words.specs.Steps.{lists_under, IsLockHome}
use Rattle.place_words.specs.Takings.{freed_by}
use Rattle.place_words.proofs.BucketLaws.{bucket_counts}
use Rattle.place_words.proofs.ElementLemmas.{times_cons_same, times_cons_other}
use Rattle.place_words.proofs.KeepLaws.{keeps_elements, times_turned}
use Rattle.place_words.proofs.LockLemmas.{named_by_number}
use Rattle.place_words.proofs.Splits.{there}
use Rattle.core_runs.specs.Words.{words_of}
use Rattle.core_runs.proofs.Chases.{row_inside}
use Rattle.core_runs.proofs.Fits.{Fits}
use Rattle.core_runs.proofs.PlainGoes.{present_in_numbers}
use Rattle.core_runs.proofs.PlainRuns.{core_lists, on_bodies}
use Rattle.core_runs.proofs.RaceRuns.{bases}
use Rattle.core_runs.proofs.Reduced.{none}
use Rattle.core_runs.proofs.Words.{listed_word}
use Rattle.step_check.proofs.LockSorts.{sort_of_lock, sort_of_part, IsBucketLock, bucket_lock, IsSetLock, set_lock, IsFreelistLock, freelist_lock, IsLocalLock, local_lock, global_lock}
use Rattle.race_words.proofs.ListHands.{leaves}
use Rattle.race_words.proofs.OwnWords.{CountsIn, SeesHeld, Worded, word_of, bucket_worded, turn_worded, push_worded}
use Rattle.race_words.proofs.PlainSteps.{in_chain, is_free_there}

-- What lies under each lock is what its turns left.
pub record Lying (shape : Shape) (contents : DomainId → Content) (s : State) : Type 0 where
  pub placed : Placed shape s
  pub lies : (lock : DomainId) → IsTrue (is_lock shape lock) → lists_under shape s lock ≡ lists_in (contents lock)

pub lying_fits : {shape : Shape} {contents : DomainId → Content} {s : State} → Lying shape contents s → Fits shape (bases contents) none none (core_lists contents) s
lying_fits lying = record {
  placed = lying.placed;
  chains = λ b is e. ap (λ (l : Lists). times e l.first + 0) (lying.lies (Bucket b) is);
  others = λ lock is list. lying.lies lock is;
}

-- what a part takes out of a bucket lay there
pub taken_lies : (shape : Shape) (cpu : ℕ) (bodies : List Stored) (part : BucketPart) → AllowsInBucket shape cpu part bodies → (e : ℕ) → times e (taken_from_bucket part) ≤ times e (numbers bodies)
unfolding AllowsInBucket
taken_lies shape cpu bodies (Lookup side key got) allowed e = omega arith
taken_lies shape cpu bodies (Update side flags key value offer (puts.Added x)) allowed e = omega arith
taken_lies shape cpu bodies (Update side flags key value offer (puts.Replaced new old)) allowed e =
    let found = there (present key bodies) _ allowed in
    let inside : IsIn old (numbers bodies) = subst (λ (x : ℕ). IsIn x (numbers bodies)) found.fact.0 (present_in_numbers key bodies found.it found.is) in
    by_test e old (λ _. times e (old ∷ []) ≤ times e (numbers bodies))
    (λ same. subst (λ (y : ℕ). times y (old ∷ []) ≤ times y (numbers bodies)) (sym same) (omega (arith, times_cons_same old [], inside)))
    (λ other. omega (arith, times_cons_other e old [] other))
taken_lies shape cpu bodies (Update side flags key value offer (puts.Written x)) allowed e = omega arith
taken_lies shape cpu bodies (Update side flags key value offer puts.Exists) allowed e = omega arith
taken_lies shape cpu bodies (Update side flags key value offer puts.Absent) allowed e = omega arith
taken_lies shape cpu bodies (Update side flags key value offer puts.Full) allowed e = omega arith
taken_lies shape cpu bodies (Delete key removed) allowed e = omega (arith, bucket_counts shape cpu bodies e (Delete key removed) allowed)
taken_lies shape cpu bodies (Take key removed) allowed e = omega (arith, bucket_counts shape cpu bodies e (Take key removed) allowed)
taken_lies shape cpu bodies (bucket_parts.Next key found) allowed e = omega arith
taken_lies shape cpu bodies (First key) allowed e = omega arith
taken_lies shape cpu bodies (Walk remove room result) allowed e = omega (arith, bucket_counts shape cpu bodies e (Walk remove room result) allowed)
taken_lies shape cpu bodies (Evict x probed) allowed e = omega (arith, bucket_counts shape cpu bodies e (Evict x probed) allowed)

pub one_few : (b : Bool) → one b ≤ 1
one_few true = omega arith
one_few false = omega arith

both_few : (a f l r : Bool) → one (a && (f && l)) + one (a && (r && (not f && l))) ≤ 1
both_few false f l r = omega arith
both_few true true true true = omega arith
both_few true true true false = omega arith
both_few true true false true = omega arith
both_few true true false false = omega arith
both_few true false true true = omega arith
both_few true false true false = omega arith
both_few true false false true = omega arith
both_few true false false false = omega arith

-- the own set that lies under a lock
record OnSet (content : Content) (part : OwnPart) : Type 0 where
  set : ListSet
  lies : content ≡ in_own set
  fact : AllowsOnOwn part set

on_set : (shape : Shape) (cpu : ℕ) (content : Content) (part : OwnPart) → Allows shape cpu (parts.Own part) content → OnSet content part
on_set shape cpu (in_own set) part may = record { set = set; lies = refl; fact = may }
on_set shape cpu (in_bucket bodies) part may = absurd may
on_set shape cpu (on_freelist stack) part may = absurd may
on_set shape cpu (in_locals lists) part may = absurd may
on_set shape cpu (in_global set) part may = absurd may

-- the first of a list, and the others
pub first_split : (e : ℕ) (xs : List ℕ) → times e (drop 1 xs) + times e (option_to_list (slice_get xs 0)) ≡ times e xs
first_split e [] = refl
first_split e (x ∷ xs) = by_test e x (λ _. times e xs + times e (x ∷ []) ≡ times e (x ∷ xs))
    (λ same. subst (λ (y : ℕ). times y xs + times y (x ∷ []) ≡ times y (x ∷ xs)) (sym same) (omega (arith, times_cons_same x [], times_cons_same x xs)))
    (λ other. omega (arith, times_cons_other e x [] other, times_cons_other e x xs other))

-- what is free once what was freed is there
freed_free : (shrink : Option ShrinkNote) (set : ListSet) (e : ℕ) → times e (shrunk_into_free shrink set).free ≡ times e (freed_by shrink) + times e set.free
freed_free None set e = omega arith
freed_free (Some note) set e = omega (arith, times_append e (reverse (freed_by (Some note))) set.free, times_turned e (freed_by (Some note)))

got_rows : (hash : ℕ) (got : Option ℕ) (xs : List Row) (e : ℕ) → times e (option_to_list got) ≤ times e (elements_of (row_with hash got ++ xs))
got_rows hash None xs e = omega arith
got_rows hash (Some g) xs e = by_test e g (λ _. times e (g ∷ []) ≤ times e (g ∷ elements_of xs))
    (λ same. subst (λ (y : ℕ). times y (g ∷ []) ≤ times y (g ∷ elements_of xs)) (sym same) (omega (arith, times_cons_same g [], times_cons_same g (elements_of xs))))
    (λ other. omega (arith, times_cons_other e g [] other))

-- an element that a turn freed is in the set after it
freed_after : (hash : ℕ) (active inactive : List Visit) (shrink : Option ShrinkNote) (got : Option ℕ) (set : ListSet) → AllowsOnOwn (own.Turn hash active inactive shrink got) set
    → (e : ℕ) → times e (freed_by shrink) ≤ times e (elements_in (in_own (own_after (own.Turn hash active inactive shrink got) set)))
unfolding own_after
freed_after hash active inactive shrink got set allowed e =
    let then : ListSet = shrunk_into_free shrink (rotated_set own_scans active inactive set) in
    let now : ListSet = given_out hash got then in
    omega (
      arith,
      times_append e now.free (elements_of now.lists.active ++ elements_of now.lists.inactive),
      times_append e (elements_of now.lists.active) (elements_of now.lists.inactive),
      first_split e then.free,
      ap (λ (o : Option ℕ). times e (option_to_list o)) allowed.2,
      freed_free shrink (rotated_set own_scans active inactive set) e,
      got_rows hash got then.lists.inactive e,
    )

pub listed_rows_in : (e : ℕ) (set : ListSet) → IsTrue (is_listed e set.lists) → IsIn e (rows (set_lists set))
listed_rows_in e set is = ⊎_elim
    (λ (first : Rattle.place_words.specs.Sets.has_row e set.lists.active ≡ true). omega (arith, row_inside e set.lists.active first, times_append e (elements_of set.lists.active) (elements_of set.lists.inactive)))
    (λ (second : Rattle.place_words.specs.Sets.has_row e set.lists.inactive ≡ true). omega (arith, row_inside e set.lists.inactive second, times_append e (elements_of set.lists.active) (elements_of set.lists.inactive)))
    (or_cases (Rattle.place_words.specs.Sets.has_row e set.lists.active) (Rattle.place_words.specs.Sets.has_row e set.lists.inactive) is)

module _ {shape : Shape} (bounds : HasBounds shape) (lru : is_lru shape.kind ≡ true) (apart : shape.common ≡ false) where
  -- Elements aren't carried.
  home_of_lock : {s : State} → Placed shape s → (e : ℕ) → e < shape.elements → IsLockHome (s.home e)
  home_of_lock {s} p e real = by (p.place e) (p.placed.places e real) (p.placed.homes e real)
    where
      by : (q : ElementPlace) → MayLie shape e (s.owner e) q → s.home e ≡ home_of_place shape q → IsLockHome (s.home e)
      by (under_lock k) may home = subst IsLockHome (sym (home ∙ ap (λ (b : Bool). cond b (homes.In (lock_named shape k)) homes.Unlisted) lru)) tt
      by (carried c) may home = absurd (true≢false (sym may.0 ∙ apart))

  -- each element is in a set once at most
  in_set_once : {s : State} → Placed shape s → (c : ℕ) → IsTrue (is_lock shape (CpuLru c)) → (set : ListSet) → lists_under shape s (CpuLru c) ≡ set_lists set → (e : ℕ) → times e (elements_in (in_own set)) ≤ 1
  in_set_once {s} p c is set lies e =
      let k : ℕ = lock_number shape (CpuLru c) in
      let told : times e (rows (s.lists k)) ≡ one (ltb e shape.elements && has_row (is_lru shape.kind) (CpuLru c) (s.owner e) (lies_at k (p.place e))) =
      subst (λ (lock : DomainId). times e (rows (s.lists k)) ≡ one (ltb e shape.elements && has_row (is_lru shape.kind) lock (s.owner e) (lies_at k (p.place e)))) (named_by_number shape (CpuLru c) is) (p.placed.rows k e) in
      omega (
        arith,
        times_append e set.free (rows (set_lists set)),
        ap (λ (l : Lists). times e l.free) lies,
        ap (λ (l : Lists). times e (rows l)) lies,
        told,
        p.placed.free k e,
        both_few (ltb e shape.elements) (is_free (s.owner e)) (lies_at k (p.place e)) (is_lru shape.kind),
      )

  module _ {contents : DomainId → Content} {s : State} (lying : Lying shape contents s) {cpu : ℕ} (within : cpu < shape.cpus) {hands : ℕ → ℕ → ℕ} (counts : CountsIn shape hands (words_of s)) where
    bucket_at : (b : ℕ) (part : BucketPart) (lists : Lists) → IsTrue (is_lock shape (Bucket b)) → Allows shape cpu (parts.Bucket part) (contents (Bucket b)) → s.holder (lock_number shape (Bucket b)) ≡ Some cpu
        → ((e : ℕ) → times e (leaves (parts.Bucket part)) ≤ hands cpu e) → SeesHeld (words_of s) (parts.Bucket part) → (outer : Option ℕ)
        → Worded shape cpu hands (parts.Bucket part) (words_of s) (word_of cpu (Bucket b) lists (part_steps shape cpu (Bucket b) outer (parts.Bucket part)) (seen_by (parts.Bucket part)))
    bucket_at b part lists is allowed held may sees_it outer =
        let found = on_bodies (contents (Bucket b)) (AllowsInBucket shape cpu part) allowed in
        let under : (e : ℕ) → times e (lists_under shape s (Bucket b)).first ≡ times e (numbers found.bodies) = λ e. ap (λ (l : Lists). times e l.first) (lying.lies (Bucket b) is ∙ ap lists_in found.lies) in
        bucket_worded lru counts b lists (record { is_cpu = within; is_lock = is; held = held }) part
        (λ e some. in_chain lying.placed b e is (omega (arith, some, taken_lies shape cpu found.bodies part found.fact e, under e)))
        (λ e. omega (arith, taken_lies shape cpu found.bodies part found.fact e, under e, chain_once b e))
        (λ e _ real. home_of_lock lying.placed e real) sees_it may
      where
        chain_once : (b e : ℕ) → times e (lists_under shape s (Bucket b)).first ≤ 1
        chain_once b e =
            let k : ℕ = lock_number shape (Bucket b) in
            omega (arith, lying.placed.placed.rows k e, one_few (ltb e shape.elements && has_row (is_lru shape.kind) (lock_named shape k) (s.owner e) (lies_at k (lying.placed.place e))), times_append e (s.lists k).first (s.lists k).second)

    own_at : (c : ℕ) (part : OwnPart) (lists : Lists) → IsTrue (is_lock shape (CpuLru c)) → (set : ListSet) → contents (CpuLru c) ≡ in_own set → AllowsOnOwn part set → s.holder (lock_number shape (CpuLru c)) ≡ Some cpu
        → ((e : ℕ) → times e (leaves (parts.Own part)) ≤ hands cpu e) → (outer : Option ℕ)
        → Worded shape cpu hands (parts.Own part) (words_of s) (word_of cpu (CpuLru c) lists (part_steps shape cpu (CpuLru c) outer (parts.Own part)) [])
    unfolding own_after
    own_at c (own.Turn hash active inactive shrink got) lists is set lies allowed held may outer =
        let lock : DomainId = CpuLru c in
        let under : lists_under shape s lock ≡ set_lists set = lying.lies lock is ∙ ap lists_in lies in
        let free_is : (e : ℕ) → 1 ≤ times e set.free → (e < shape.elements) × (s.owner e ≡ owners.Free) = λ e some. is_free_there lying.placed lock e (omega (arith, some, ap (λ (l : Lists). times e l.free) under)) in
        turn_worded lru counts c lists (record { is_cpu = within; is_lock = is; held = held }) hash active inactive shrink got
        (λ e some.
        let has = counts.held cpu e (omega (arith, some, may e)) in
        let kept = keeps_elements shape cpu (parts.Own (own.Turn hash active inactive shrink got)) (in_own set) allowed (in_set_once lying.placed c is set under) e in
        listed_word bounds s lying.placed lock e lru is refl
        (⊎_elim
        (λ (none_free : times e set.free < 1).
        omega (
          arith,
          some,
          none_free,
          kept,
          freed_after hash active inactive shrink got set allowed e,
          times_append e set.free (rows (set_lists set)),
          ap (λ (l : Lists). times e (rows l)) under,
        ))
        (λ (free : 1 ≤ times e set.free). absurd (let both : owners.Free ≡ owners.Hand cpu = sym (free_is e free).1 ∙ has.1 in cc))
        (cases_lt (times e set.free) 1)))
        (λ e some.
        let there_ : times e (option_to_list got) ≤ times e (shrunk_into_free shrink (rotated_set own_scans active inactive set)).free =
        omega (arith, first_split e (shrunk_into_free shrink (rotated_set own_scans active inactive set)).free, ap (λ (o : Option ℕ). times e (option_to_list o)) allowed.2) in
        ⊎_elim
        (λ (none_freed : times e (freed_by shrink) < 1).
        let free = free_is e (omega (arith, some, there_, none_freed, freed_free shrink (rotated_set own_scans active inactive set) e)) in (free.0, inl (inl free.1)))
        (λ (freed : 1 ≤ times e (freed_by shrink)). ((counts.held cpu e (omega (arith, freed, may e))).0, inr freed))
        (cases_lt (times e (freed_by shrink)) 1))
        may
    own_at c (own.Push e) lists is set lies allowed held may outer =
        let lock : DomainId = CpuLru c in
        let under : lists_under shape s lock ≡ set_lists set = lying.lies lock is ∙ ap lists_in lies in
        push_worded lru counts c lists (record { is_cpu = within; is_lock = is; held = held }) e
        (listed_word bounds s lying.placed lock e lru is refl (omega (arith, listed_rows_in e set allowed, ap (λ (l : Lists). times e (rows l)) under)))
        (omega (arith, may e, times_cons_same e []))

    -- Any turn
    pub turn_at : (lock : DomainId) (part : Part) (lists : Lists) → IsTrue (is_lock shape lock) → sort_of_part part ≡ sort_of_lock lock → Allows shape cpu part (contents lock) → s.holder (lock_number shape lock) ≡ Some cpu
        → ((e : ℕ) → times e (leaves part) ≤ hands cpu e) → SeesHeld (words_of s) part → (outer : Option ℕ)
        → Worded shape cpu hands part (words_of s) (word_of cpu lock lists (part_steps shape cpu lock outer part) (seen_by part))
    turn_at lock (parts.Bucket part) lists is sort allowed held may sees_it outer =
        let named : IsBucketLock lock = bucket_lock lock sort in
        subst (λ (l : DomainId). Worded shape cpu hands (parts.Bucket part) (words_of s) (word_of cpu l lists (part_steps shape cpu l outer (parts.Bucket part)) (seen_by (parts.Bucket part)))) (sym named.is)
        (bucket_at named.bucket part lists (subst (λ (l : DomainId). IsTrue (is_lock shape l)) named.is is) (subst (λ (l : DomainId). Allows shape cpu (parts.Bucket part) (contents l)) named.is allowed)
        (subst (λ (l : DomainId). s.holder (lock_number shape l) ≡ Some cpu) named.is held) may sees_it outer)
    turn_at lock (parts.Own part) lists is sort allowed held may sees_it outer =
        let named : IsSetLock lock = set_lock lock sort in
        let found : OnSet (contents (CpuLru named.cpu)) part = on_set shape cpu (contents (CpuLru named.cpu)) part (subst (λ (l : DomainId). Allows shape cpu (parts.Own part) (contents l)) named.is allowed) in
        subst (λ (l : DomainId). Worded shape cpu hands (parts.Own part) (words_of s) (word_of cpu l lists (part_steps shape cpu l outer (parts.Own part)) [])) (sym named.is)
        (own_at named.cpu part lists (subst (λ (l : DomainId). IsTrue (is_lock shape l)) named.is is) found.set found.lies found.fact
        (subst (λ (l : DomainId). s.holder (lock_number shape l) ≡ Some cpu) named.is held) may outer)
    turn_at lock (parts.Free part) lists is sort allowed held may sees_it outer =
        let named : IsFreelistLock lock = freelist_lock lock sort in
        absurd (no_freelist named.cpu (subst (λ (l : DomainId). IsTrue (is_lock shape l)) named.is is))
      where
        no_freelist : (c : ℕ) → IsTrue (is_lock shape (Freelist c)) → ⊥
        no_freelist c there_ = true≢false (sym (and_parts (not (is_lru shape.kind)) (ltb c shape.cpus) there_).0 ∙ ap not lru)
    turn_at lock (parts.Local part) lists is sort allowed held may sees_it outer =
        let named : IsLocalLock lock = local_lock lock sort in
        absurd (no_local named.cpu (subst (λ (l : DomainId). IsTrue (is_lock shape l)) named.is is))
      where
        no_local : (c : ℕ) → IsTrue (is_lock shape (Local c)) → ⊥
        no_local c there_ = true≢false (sym (and_parts shape.common (ltb c shape.cpus) there_).0 ∙ apart)
    turn_at lock (parts.Global part) lists is sort allowed held may sees_it outer = absurd (true≢false (sym (subst (λ (l : DomainId). IsTrue (is_lock shape l)) (global_lock lock sort) is) ∙ apart))
