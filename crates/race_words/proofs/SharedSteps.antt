-- A turn of a map whose CPUs share lists, in a state in which under the locks lies what turns left, but of a CPU's lists in whose refill the turn
-- of the global lists was made.
use Rattle.std.proofs.Common.{◌≡◌, ◌⊎◌, inl, inr, ℕ, zero, suc, ◌+◌, ◌<◌, ◌≤◌, Bool, true, false, ◌&&◌, cond, List, [], ◌∷◌, reverse, take, Option, None, Some, refl, ap, ◌∙◌, sym, subst, ⊎_elim, arith, ltb}
use Rattle.std.specs.Prelude.{IsTrue, option_to_list, slice_get}
use Rattle.std.proofs.lemmas.Bool.{and_parts, cases_Bool, cases_lt}
use Rattle.map_types.specs.declared.attr.Shape.{Shape}
use Rattle.map_types.specs.declared.kind.DomainId.{DomainId}
use Rattle.map_types.specs.declared.kind.DomainId.TheVariants.{Local, Global, Bucket}
use Rattle.map_types.specs.ElementLists.{times, IsIn}
use Rattle.map_types.specs.Kind.{is_lru}
use Rattle.map_types.specs.Shape.{HasBounds}
use Rattle.map_types.proofs.RowLemmas.{by_test, times_append}
use Rattle.place_words.specs.declared.bucket_part.BucketPart.{BucketPart}
use Rattle.place_words.specs.declared.history.Part.TheVariants as parts
use Rattle.place_words.specs.declared.home.Home.{Home}
use Rattle.place_words.specs.declared.home.Home.TheVariants as homes
use Rattle.place_words.specs.declared.list_part.GlobalPart.TheVariants as global
use Rattle.place_words.specs.declared.list_part.LocalPart.{LocalPart}
use Rattle.place_words.specs.declared.list_part.LocalPart.TheVariants as local
use Rattle.place_words.specs.declared.list_part.Stolen.TheVariants as stolen
use Rattle.place_words.specs.declared.owner.Owner.TheVariants as owners
use Rattle.place_words.specs.declared.step.Lists.{Lists}
use Rattle.place_words.specs.declared.visits.Flush.{Flush}
use Rattle.place_words.specs.declared.visits.Look.{Look}
use Rattle.place_words.specs.declared.visits.ShrinkNote.{ShrinkNote}
use Rattle.place_words.specs.declared.visits.Try.{Try}
use Rattle.place_words.specs.declared.visits.Visit.{Visit}
use Rattle.place_words.specs.Bodies.{numbers}
use Rattle.place_words.specs.Buckets.{AllowsInBucket}
use Rattle.place_words.specs.Globals.{AllowsOnGlobal, flushed_elements, global_target}
use Rattle.place_words.specs.Histories.{Content, Allows}
use Rattle.place_words.specs.Interleaving.{lists_in, part_steps, seen_by}
use Rattle.place_words.specs.Locals.{AllowsOnLocal}
use Rattle.place_words.specs.Locks.{is_lock, lock_number, lock_named}
use Rattle.place_words.specs.Openings.{is_free}
use Rattle.place_words.specs.Places.{Placed, ElementPlace, under_lock, carried, home_of_place, has_row, lies_at, MayLie}
use Rattle.place_words.specs.Shrinking.{freed}
use Rattle.place_words.specs.State.{State, rows, is_bucket}
use Rattle.place_words.specs.Steps.{lists_under, IsLockHome}
use Rattle.place_words.specs.Takings.{freed_by}
use Rattle.place_words.proofs.ElementLemmas.{times_cons_same, times_cons_other}
use Rattle.place_words.proofs.KeepLaws.{times_turned}
use Rattle.place_words.proofs.LockLemmas.{named_by_number}
use Rattle.place_words.proofs.RowLemmas.{free_is, head_is_in, lies_is, stands_where}
use Rattle.core_runs.specs.SharedRaces.{Midst, LocalPays}
use Rattle.core_runs.specs.Words.{HoldsWord, words_of}
use Rattle.core_runs.proofs.Chases.{row_inside}
use Rattle.core_runs.proofs.OwnTurns.{stacked}
use Rattle.core_runs.proofs.PlainRuns.{on_bodies}
use Rattle.core_runs.proofs.Rehomes.{not_free}
use Rattle.core_runs.proofs.SharedCalls.{on_locals, on_global}
use Rattle.core_runs.proofs.Words.{listed_word}
use Rattle.step_check.proofs.Standing.{MidLists}
use Rattle.race_words.proofs.ListHands.{leaves, Carried}
use Rattle.race_words.proofs.OwnSteps.{taken_lies, one_few, first_split, listed_rows_in}
use Rattle.race_words.proofs.OwnWords.{CountsIn, SeesHeld, word_of, bucket_worded, is_first}
use Rattle.race_words.proofs.PlainSteps.{in_chain, is_free_there}
use Rattle.race_words.proofs.SharedGlobals.{global_shared}
use Rattle.race_words.proofs.SharedWords.{Carrying, SharedWorded, no_hand, bucket_shared, claims_shared, settle_shared, quiet_shared, steal_free, steal_pending, add_shared}

-- what lies under the locks
pub record Under (shape : Shape) (contents : DomainId → Content) (m : Midst) (s : State) : Type 0 where
  pub placed : Placed shape s
  pub chains : (b : ℕ) → IsTrue (is_lock shape (Bucket b)) → (e : ℕ) → times e (lists_under shape s (Bucket b)).first ≡ times e (lists_in (contents (Bucket b))).first
  pub globals : IsTrue (is_lock shape Global) → lists_under shape s Global ≡ lists_in (contents Global)
  pub locals : (c : ℕ) → IsTrue (is_lock shape (Local c)) → MidLists (lists_under shape s (Local c)) (lists_in (contents (Local c))) (m.busy c) (m.got c) (m.sent c)

times_stacked : (e : ℕ) (es free : List ℕ) → times e (stacked es free) ≡ times e es + times e free
times_stacked e [] free = omega arith
times_stacked e (x ∷ es) free = times_stacked e es (x ∷ free) ∙ by_test e x (λ _. times e es + times e (x ∷ free) ≡ times e (x ∷ es) + times e free)
    (λ same. subst (λ (y : ℕ). times y es + times y (x ∷ free) ≡ times y (x ∷ es) + times y free) (sym same) (omega (arith, times_cons_same x free, times_cons_same x es)))
    (λ other. omega (arith, times_cons_other e x free other, times_cons_other e x es other))

taken_few : (n e : ℕ) (xs : List ℕ) → times e (take n xs) ≤ times e xs
taken_few zero e xs = omega arith
taken_few (suc n) e [] = omega arith
taken_few (suc n) e (x ∷ xs) = by_test e x (λ _. times e (x ∷ take n xs) ≤ times e (x ∷ xs))
    (λ same. subst (λ (y : ℕ). times y (x ∷ take n xs) ≤ times y (x ∷ xs)) (sym same) (omega (arith, times_cons_same x (take n xs), times_cons_same x xs, taken_few n x xs)))
    (λ other. omega (arith, times_cons_other e x (take n xs) other, times_cons_other e x xs other, taken_few n e xs))

-- the last of a list is among it
last_in : (e : ℕ) (es : List ℕ) → times e (option_to_list (slice_get (reverse es) 0)) ≤ times e es
last_in e es = omega (arith, first_split e (reverse es), times_turned e es)

no_home : {A : Type 0} (lock : DomainId) (c : ℕ) (h : Home) → h ≡ homes.In lock → h ≡ homes.Hand c → A
no_home lock c h first second = no_hand lock c (sym first ∙ second)

same_hand : (c d : ℕ) → homes.Hand c ≡ homes.Hand d → c ≡ d
same_hand c d same = cc

same_owner : (c d : ℕ) → owners.Hand c ≡ owners.Hand d → c ≡ d
same_owner c d same = cc

module _ {shape : Shape} (bounds : HasBounds shape) (lru : is_lru shape.kind ≡ true) (common : IsTrue shape.common) {s : State} (p : Placed shape s) where
  lock_place : (k e : ℕ) (q : ElementPlace) → s.home e ≡ home_of_place shape q → q ≡ under_lock k → s.home e ≡ homes.In (lock_named shape k)
  lock_place k e q home is = home ∙ ap (home_of_place shape) is ∙ ap (λ (b : Bool). cond b (homes.In (lock_named shape k)) homes.Unlisted) lru

  -- what is free under a lock has it for a home
  pub free_home : (lock : DomainId) (e : ℕ) → IsTrue (is_lock shape lock) → IsIn e (lists_under shape s lock).free → (e < shape.elements) × (s.owner e ≡ owners.Free) × (s.home e ≡ homes.In lock)
  free_home lock e is inside =
      let k : ℕ = lock_number shape lock in
      let there = stands_where shape.elements e (times e (s.lists k).free) (is_free (s.owner e) && lies_at k (p.place e)) (p.placed.free k e) inside in
      let both = and_parts (is_free (s.owner e)) (lies_at k (p.place e)) there.stands in
      (there.real, free_is (s.owner e) both.0, lock_place k e (p.place e) (p.placed.homes e there.real) (lies_is k (p.place e) both.1) ∙ ap homes.In (named_by_number shape lock is))

  -- and so has what is listed there, which isn't free
  pub row_home : (lock : DomainId) (e : ℕ) → IsTrue (is_lock shape lock) → is_bucket lock ≡ false → IsIn e (rows (lists_under shape s lock)) → (e < shape.elements) × (is_free (s.owner e) ≡ false) × (s.home e ≡ homes.In lock)
  row_home lock e is list inside =
      let k : ℕ = lock_number shape lock in
      let there = stands_where shape.elements e (times e (rows (s.lists k))) (has_row (is_lru shape.kind) (lock_named shape k) (s.owner e) (lies_at k (p.place e))) (p.placed.rows k e) inside in
      (there.real, not_free (s.owner e) (is_lru shape.kind) (lock_named shape k) (lies_at k (p.place e)) there.stands, listed_word bounds s p lock e lru is list inside)

  -- What is carried is in the hand of its CPU.
  pub carried_owner : (c e : ℕ) → e < shape.elements → s.home e ≡ homes.Hand c → s.owner e ≡ owners.Hand c
  carried_owner c e real home = by (p.place e) (p.placed.places e real) (p.placed.homes e real)
    where
      by : (q : ElementPlace) → MayLie shape e (s.owner e) q → s.home e ≡ home_of_place shape q → s.owner e ≡ owners.Hand c
      by (under_lock k) may told = no_home (lock_named shape k) c (s.home e) (lock_place k e (under_lock k) told refl) home
      by (carried d) may told = may.1 ∙ ap owners.Hand (same_hand d c (sym (told ∙ ap (λ (b : Bool). cond b (homes.Hand d) homes.Unlisted) lru) ∙ home))

  -- What is in a hand that carries nothing has a lock for a home.
  pub home_of_lock : {loads : ℕ → Option ℕ} (cpu : ℕ) → Carrying shape loads (words_of s) → loads cpu ≡ None → (e : ℕ) → e < shape.elements → s.owner e ≡ owners.Hand cpu → IsLockHome (s.home e)
  home_of_lock {loads} cpu carrying none e real mine = by (p.place e) (p.placed.places e real) (p.placed.homes e real)
    where
      by : (q : ElementPlace) → MayLie shape e (s.owner e) q → s.home e ≡ home_of_place shape q → IsLockHome (s.home e)
      by (under_lock k) may told = subst IsLockHome (sym (lock_place k e (under_lock k) told refl)) tt
      by (carried d) may told =
          let home : s.home e ≡ homes.Hand d = told ∙ ap (λ (b : Bool). cond b (homes.Hand d) homes.Unlisted) lru in
          let same : d ≡ cpu = same_owner d cpu (sym may.1 ∙ mine) in
          absurd (let both : (◌≡◌ {A = Option ℕ} None (Some e)) = sym none ∙ carrying.only cpu e real (home ∙ ap homes.Hand same) in cc)

module _ {shape : Shape} (bounds : HasBounds shape) (lru : is_lru shape.kind ≡ true) (common : IsTrue shape.common) {contents : DomainId → Content} {m : Midst} {s : State} (under : Under shape contents m s) {cpu : ℕ} (within : cpu < shape.cpus)
    {hands : ℕ → ℕ → ℕ} (counts : CountsIn shape hands (words_of s)) {loads : ℕ → Option ℕ} (carrying : Carrying shape loads (words_of s)) where
  module _ (b : ℕ) (part : BucketPart) (lists : Lists) (is : IsTrue (is_lock shape (Bucket b))) (allowed : Allows shape cpu (parts.Bucket part) (contents (Bucket b))) (held : s.holder (lock_number shape (Bucket b)) ≡ Some cpu)
      (may : (e : ℕ) → times e (leaves (parts.Bucket part)) ≤ hands cpu e) (none : loads cpu ≡ None) (looks : SeesHeld (words_of s) (parts.Bucket part)) where
    pub bucket_at : (outer : Option ℕ) → SharedWorded shape cpu hands loads (parts.Bucket part) (words_of s) (word_of cpu (Bucket b) lists (part_steps shape cpu (Bucket b) outer (parts.Bucket part)) (seen_by (parts.Bucket part)))
    bucket_at outer =
        let found = on_bodies (contents (Bucket b)) (AllowsInBucket shape cpu part) allowed in
        let inside : (e : ℕ) → times e (lists_under shape s (Bucket b)).first ≡ times e (numbers found.bodies) = λ e. under.chains b is e ∙ ap (λ (c : Content). times e (lists_in c).first) found.lies in
        bucket_shared carrying b lists part none
        (bucket_worded lru counts b lists (record { is_cpu = within; is_lock = is; held = held }) part
        (λ e some. in_chain under.placed b e is (omega (arith, some, taken_lies shape cpu found.bodies part found.fact e, inside e)))
        (λ e. omega (arith, taken_lies shape cpu found.bodies part found.fact e, inside e, chain_once e))
        (λ e some real. home_of_lock bounds lru common under.placed cpu carrying none e real (counts.held cpu e (omega (arith, some, may e))).1) looks may)
      where
        chain_once : (e : ℕ) → times e (lists_under shape s (Bucket b)).first ≤ 1
        chain_once e =
            let k : ℕ = lock_number shape (Bucket b) in
            omega (arith, under.placed.placed.rows k e, one_few (ltb e shape.elements && has_row (is_lru shape.kind) (lock_named shape k) (s.owner e) (lies_at k (under.placed.place e))), times_append e (s.lists k).first (s.lists k).second)

  -- A turn of a CPU's lists
  module _ (c : ℕ) (lists : Lists) (is : IsTrue (is_lock shape (Local c))) (held : s.holder (lock_number shape (Local c)) ≡ Some cpu) (begun : Bool) where
    abbrev lock : DomainId
    lock = Local c

    holds : HoldsWord shape (words_of s) cpu lock
    holds = record { is_cpu = within; is_lock = is; held = held }

    at_rest : m.busy c ≡ false → lists_under shape s lock ≡ lists_in (contents lock)
    at_rest rests = ((under.locals c is).rest rests).0

    pub local_at : (part : LocalPart) → LocalPays (contents lock) m begun cpu c part → Allows shape cpu (parts.Local part) (contents lock) → ((e : ℕ) → times e (leaves (parts.Local part)) ≤ hands cpu e) → Carried (loads cpu) (parts.Local part) → (outer : Option ℕ)
        → SharedWorded shape cpu hands loads (parts.Local part) (words_of s) (word_of cpu lock lists (part_steps shape cpu lock outer (parts.Local part)) [])
    local_at (local.Pop hash x) pays allowed may load outer =
        let found = on_locals (contents lock) (AllowsOnLocal shape (local.Pop hash x)) allowed in
        let free = free_home bounds lru common under.placed lock x is (subst (λ (l : Lists). IsIn x l.free) (sym (at_rest pays ∙ ap lists_in found.lies)) (head_is_in x found.lists.free found.fact)) in
        claims_shared carrying lock lists holds counts (parts.Local (local.Pop hash x)) (Some x) refl refl load refl
        (λ e some. subst (λ (y : ℕ). (y < shape.elements) × (s.owner y ≡ owners.Free)) (sym (is_first e x some)) (free.0, free.1))
    local_at (local.Refill hash flushed gained got) pays allowed may load outer =
        let found = on_locals (contents lock) (AllowsOnLocal shape (local.Refill hash flushed gained got)) allowed in
        claims_shared carrying lock lists holds counts (parts.Local (local.Refill hash flushed gained got)) got refl refl load refl
        (λ e some.
        let gain : 1 ≤ times e gained = omega (arith, some, ap (λ (o : Option ℕ). times e (option_to_list o)) found.fact.2, last_in e gained) in
        ⊎_elim
        (λ (busy : m.busy c ≡ true).
        is_free_there under.placed lock e (omega (arith, gain, ap (times e) ((under.locals c is).free busy), times_stacked e (m.got c) (lists_in (contents lock)).free, ap (times e) pays.0)))
        (λ (rests : m.busy c ≡ false). absurd (omega (arith, gain, ap (times e) pays.0, ap (times e) ((under.locals c is).rest rests).1)))
        (cases_Bool (m.busy c)))
    local_at (local.Steal (stolen.Free x) first second) pays allowed may load outer =
        let found = on_locals (contents lock) (AllowsOnLocal shape (local.Steal (stolen.Free x) first second)) allowed in
        let free = free_home bounds lru common under.placed lock x is (subst (λ (l : Lists). IsIn x l.free) (sym (at_rest pays.0 ∙ ap lists_in found.lies)) (head_is_in x found.lists.free found.fact.0)) in
        steal_free carrying lock lists holds counts common x first second
        (ap (λ (l : List Look). freed l second) found.fact.1 ∙ ap (λ (l : List Try). freed [] l) found.fact.2) load free.0 free.1 free.2
    local_at (local.Steal (stolen.Pending x) first second) pays allowed may load outer =
        let found = on_locals (contents lock) (AllowsOnLocal shape (local.Steal (stolen.Pending x) first second)) allowed in
        let row = row_home bounds lru common under.placed lock x is refl (omega (arith, pays.1, ap (λ (l : Lists). times x l.first) (at_rest pays.0), times_append x (lists_under shape s lock).first (lists_under shape s lock).second)) in
        steal_pending carrying lock lists holds counts common x first second found.fact.1 load row.2 may
    local_at (local.Steal stolen.Nothing first second) pays allowed may load outer =
        let found = on_locals (contents lock) (AllowsOnLocal shape (local.Steal stolen.Nothing first second)) allowed in
        quiet_shared carrying lock lists holds counts (parts.Local (local.Steal stolen.Nothing first second)) refl found.fact.1 load refl
    local_at (local.Add hash x cursor) pays allowed may load outer =
        let mine : cpu ≡ c = pays.2 in
        let has = carrying.carried cpu x load in
        subst (λ (d : ℕ). SharedWorded shape cpu hands loads (parts.Local (local.Add hash x cursor)) (words_of s) (word_of cpu (Local d) lists (part_steps shape cpu (Local d) outer (parts.Local (local.Add hash x cursor))) [])) mine
        (add_shared carrying lists (subst (λ (d : ℕ). HoldsWord shape (words_of s) cpu (Local d)) (sym mine) holds) counts common hash x cursor load (carried_owner bounds lru common under.placed cpu x has.0 has.1))
    local_at (local.Push x true) pays allowed may load outer =
        let found = on_locals (contents lock) (AllowsOnLocal shape (local.Push x true)) allowed in
        let row = row_home bounds lru common under.placed lock x is refl
        (omega (
          arith,
          row_inside x found.lists.pending found.fact,
          ap (λ (l : Lists). times x l.first) (at_rest pays ∙ ap lists_in found.lies),
          times_append x (lists_under shape s lock).first (lists_under shape s lock).second,
        )) in
        settle_shared carrying lock lists holds counts (parts.Local (local.Push x true)) x refl refl load refl refl row.2 may
    local_at (local.Push x false) pays allowed may load outer = quiet_shared carrying lock lists holds counts (parts.Local (local.Push x false)) refl refl load refl

  -- A turn of the global lists
  module _ (lists : Lists) (is : IsTrue (is_lock shape Global)) (held : s.holder (lock_number shape Global) ≡ Some cpu) where
    holds_global : HoldsWord shape (words_of s) cpu Global
    holds_global = record { is_cpu = within; is_lock = is; held = held }

    pub push_at : (x : ℕ) → Allows shape cpu (parts.Global (global.Push x)) (contents Global) → ((e : ℕ) → times e (leaves (parts.Global (global.Push x))) ≤ hands cpu e) → loads cpu ≡ None → (outer : Option ℕ)
        → SharedWorded shape cpu hands loads (parts.Global (global.Push x)) (words_of s) (word_of cpu Global lists (part_steps shape cpu Global outer (parts.Global (global.Push x))) [])
    push_at x allowed may none outer =
        let found = on_global (contents Global) (AllowsOnGlobal (global.Push x)) allowed in
        let row = row_home bounds lru common under.placed Global x is refl (omega (arith, listed_rows_in x found.set found.fact, ap (λ (l : Lists). times x (rows l)) (under.globals is ∙ ap lists_in found.lies))) in
        settle_shared carrying Global lists holds_global counts (parts.Global (global.Push x)) x refl refl none refl refl row.2 may

    pub global_at : (flushed : List Flush) (active inactive : List Visit) (free : List ℕ) (shrink : Option ShrinkNote) → Allows shape cpu (parts.Global (global.Turn flushed active inactive free shrink)) (contents Global)
        → IsTrue (is_lock shape (Local cpu)) → s.holder (lock_number shape (Local cpu)) ≡ Some cpu → m.busy cpu ≡ false
        → ((e : ℕ) → times e (flushed_elements flushed) ≤ times e (rows (lists_in (contents (Local cpu))))) → ((e : ℕ) → times e (freed_by shrink) ≤ times e (rows (lists_in (contents Global))) + times e (flushed_elements flushed))
        → ((e : ℕ) → times e (freed_by shrink) ≤ hands cpu e) → loads cpu ≡ None → (outer : Option ℕ)
        → SharedWorded shape cpu hands loads (parts.Global (global.Turn flushed active inactive free shrink)) (words_of s)
        (word_of cpu Global lists (part_steps shape cpu Global outer (parts.Global (global.Turn flushed active inactive free shrink))) [])
    global_at flushed active inactive free shrink allowed is_local also rests pending listed may none outer =
        let found = on_global (contents Global) (AllowsOnGlobal (global.Turn flushed active inactive free shrink)) allowed in
        global_shared common counts carrying lists holds_global (record { is_cpu = within; is_lock = is_local; held = also }) flushed active inactive free shrink
        (λ e some.
        let row = row_home bounds lru common under.placed (Local cpu) e is_local refl (omega (arith, some, pending e, ap (λ (l : Lists). times e (rows l)) ((under.locals cpu is_local).rest rests).0)) in
        (row.0, row.2))
        (λ e some. free_home bounds lru common under.placed Global e is
        (omega (arith, some, ap (times e) found.fact.2, taken_few global_target e found.set.free, ap (λ (l : Lists). times e l.free) (under.globals is ∙ ap lists_in found.lies))))
        (λ e some. listed_or e some (cases_lt (times e (flushed_elements flushed)) 1))
        may none
      where
        listed_or : (e : ℕ) → 1 ≤ times e (freed_by shrink) → (times e (flushed_elements flushed) < 1) ⊎ (1 ≤ times e (flushed_elements flushed)) → (s.home e ≡ homes.In Global) ⊎ (1 ≤ times e (flushed_elements flushed))
        listed_or e some (inr flush) = inr flush
        listed_or e some (inl no_flush) = inl (row_home bounds lru common under.placed Global e is refl (omega (arith, some, no_flush, listed e, ap (λ (l : Lists). times e (rows l)) (under.globals is)))).2
