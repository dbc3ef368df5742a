-- Thefts and additions in a race: what words allow of them may be done.
use Rattle.std.proofs.Common.{◌≡◌, ℕ, suc, ◌+◌, ◌<◌, ◌≤◌, Bool, true, false, ◌&&◌, ◌||◌, cond, ltb, List, [], ◌∷◌, ◌++◌, map, Some, refl, ap, ◌∙◌, sym, subst, arith, drop}
use Rattle.std.specs.Prelude.{IsTrue}
use Rattle.std.proofs.lemmas.Bool.{lt-ltb}
use Rattle.map_types.specs.declared.attr.Shape.{Shape}
use Rattle.map_types.specs.declared.kind.DomainId.{DomainId}
use Rattle.map_types.specs.declared.kind.DomainId.TheVariants.{Local, Global, CpuLru, Bucket, Freelist}
use Rattle.map_types.specs.declared.row.Row.{Row}
use Rattle.map_types.specs.Kind.{is_lru}
use Rattle.map_types.specs.Listed.{elements_of}
use Rattle.map_types.specs.Shape.{HasBounds}
use Rattle.map_types.specs.ElementLists.{put, one, times, without, IsIn, IsHead}
use Rattle.map_types.proofs.RowLemmas.{times_append, by_test}
use Rattle.place_words.specs.declared.home.Home.{Home}
use Rattle.place_words.specs.declared.home.Home.TheVariants as homes
use Rattle.place_words.specs.declared.owner.Owner.{Owner}
use Rattle.place_words.specs.declared.owner.Owner.TheVariants as owners
use Rattle.place_words.specs.declared.list_part.LocalPart.TheVariants as local
use Rattle.place_words.specs.declared.list_part.Stolen.{Stolen}
use Rattle.place_words.specs.declared.list_part.Stolen.TheVariants as stolen
use Rattle.place_words.specs.declared.visits.Look.{Look}
use Rattle.place_words.specs.declared.visits.Try.{Try}
use Rattle.place_words.specs.Freelists.{without_top}
use Rattle.place_words.specs.Locals.{LocalLists, local_after}
use Rattle.place_words.specs.Locks.{rank_of, is_lock, lock_number, lock_named}
use Rattle.place_words.specs.Openings.{is_free}
use Rattle.place_words.specs.Sets.{has_row}
use Rattle.place_words.proofs.LockLemmas.{named_by_number}
use Rattle.place_words.specs.declared.step.Lists.{Lists}
use Rattle.place_words.specs.declared.step.Step.TheVariants as steps
use Rattle.place_words.specs.Places as places
use Rattle.place_words.specs.State.{State, rows}
use Rattle.place_words.specs.Steps.{IsEnabled, after, with_row, without_row, with_free, without_free, MayLeave, IsFreeOrInHand, CanTake, left_by, joined_by, after_leaving, after_joining}
use Rattle.place_words.proofs.ElementLemmas.{put_else, times_cons_same}
use Rattle.place_words.proofs.StepLaws.{step_keeps_places}
use Rattle.place_words.specs.Interleaving.{Event, does, local_steps}
use Rattle.core_runs.specs.Words.{ListsAllow}
use Rattle.core_runs.proofs.Ties.{with_lists, lists_here}
use Rattle.core_runs.proofs.Fits.{Fits, fits_alike, take_fits, claim_fits, list_changes, gives_same}
use Rattle.core_runs.proofs.Reduced.{Follows, follows_step, none}
use Rattle.core_runs.proofs.SharedMoves.{local_lists}
use Rattle.core_runs.proofs.SharedReduced.{row_here}
use Rattle.core_runs.proofs.SetsReduced.{few_rows}
use Rattle.core_runs.proofs.LocalReduced.{of_local, gives}
use Rattle.core_runs.proofs.OwnNest.{put_back, put_twice}
use Rattle.core_runs.proofs.PlainRuns.{head_first, without_head}
use Rattle.core_runs.proofs.ListGoes.{without_rows}
use Rattle.core_runs.proofs.Words.{place_of_home}

row_none : (e : ℕ) (rs : List Row) → has_row e rs ≡ false → times e (elements_of rs) ≡ 0
row_none e [] lacks = refl
row_none e (row ∷ rs) lacks =
    by_test row.element e (λ b. (b || has_row e rs) ≡ false → cond b (suc (times e (elements_of rs))) (times e (elements_of rs)) ≡ 0) (λ same is. absurd cc) (λ other is. row_none e rs is) lacks

some_rank : (lock : DomainId) → 1 ≤ rank_of lock
some_rank (Local c) = omega arith
some_rank Global = omega arith
some_rank (CpuLru c) = omega arith
some_rank (Bucket b) = omega arith
some_rank (Freelist c) = omega arith

module _ {shape : Shape} (bounds : HasBounds shape) (lru : is_lru shape.kind ≡ true) {base owed : ℕ → List ℕ} {lists : DomainId → Lists} (cpu c : ℕ) (is : IsTrue (is_lock shape (Local c))) (s : State) (more : List Event) (fits : Fits shape base owed none lists s) where
  -- a listed element leaves all lists
  away_fits : (e : ℕ) (l left : Lists) (t : State) → Fits shape base owed none (with_lists (Local c) l lists) t → IsIn e (rows l) → without_row e l ≡ left → IsEnabled shape t (steps.Rehome cpu e (homes.Hand cpu))
      → Fits shape base owed none (with_lists (Local c) left lists) (after shape t (steps.Rehome cpu e (homes.Hand cpu)))
  away_fits e l left t fits' inside made can =
      let lock : DomainId = Local c in
      let a : ℕ = lock_number shape lock in
      let at : with_lists lock l lists lock ≡ l = lists_here lock l lists in
      let lies = row_here bounds lru fits' lock e is refl (subst (λ (k : Lists). IsIn e (rows k)) (sym at) inside) in
      let left_there : left_by (t.owner e) e (t.lists a) ≡ left =
      ap (λ (x : Bool). cond x (without_free e (t.lists a)) (without_row e (t.lists a))) lies.is ∙ ap (without_row e) (fits'.others lock is refl ∙ at) ∙ made in
      let leaving : after_leaving shape (t.home e) (t.owner e) e t.lists ≡ put t.lists a left = ap (λ (h : Home). after_leaving shape h (t.owner e) e t.lists) lies.home ∙ ap (put t.lists a) left_there in
      fits_alike (list_changes fits' lock is refl left (after shape t (steps.Rehome cpu e (homes.Hand cpu))) (step_keeps_places shape t (steps.Rehome cpu e (homes.Hand cpu)) bounds can fits'.placed) leaving) base owed none (with_lists lock left lists) (λ b. refl) (λ b. refl) (λ b. refl) (λ other _. put_twice lock left l lists other)

  -- A theft: what is stolen from pending has been seen there.
  pub steal_turn : (got : Stolen) (first : List Look) (second : List Try) (ll : LocalLists) → lists (Local c) ≡ of_local bounds lru cpu c is s more fits ll
      → ((e : ℕ) → got ≡ stolen.Free e → IsHead e ll.free) → ((e : ℕ) → got ≡ stolen.Pending e → IsIn e (elements_of ll.pending))
      → ((t : State) → Fits shape base owed none (with_lists (Local c) (of_local bounds lru cpu c is s more fits (local_after (local.Steal got first second) ll)) lists) t → Follows shape t more)
      → Follows shape s (map does (local_steps cpu (Local c) (local.Steal got first second)) ++ does (steps.Give cpu (Local c) (of_local bounds lru cpu c is s more fits (local_after (local.Steal got first second) ll))) ∷ more)
  unfolding ListsAllow local_after
  steal_turn (stolen.Free e) first second ll lies head pending next =
      let lock : DomainId = Local c in
      let P : List ℕ = elements_of ll.pending in
      let l1 : Lists = local_lists (drop 1 ll.free) (e ∷ P) in
      let new : Lists = local_lists (drop 1 ll.free) P in
      let free : ll.free ≡ e ∷ without_top ll.free = head_first e ll.free (head e refl) in
      let gone : without e ll.free ≡ drop 1 ll.free = ap (without e) free ∙ without_head e (without_top ll.free) ∙ sym (ap (drop 1) free) in
      let made : with_row lock e (without_free e (lists lock)) ≡ l1 = ap (λ (k : Lists). with_row lock e (without_free e k)) lies ∙ ap (λ (xs : List ℕ). local_lists xs (e ∷ P)) gone in
      follows_step bounds s (steps.Claim cpu e lock) (does (steps.Rehome cpu e (homes.Hand cpu)) ∷ does (steps.Give cpu lock new) ∷ more) fits.placed
      (subst (λ (k : Lists). IsHead e k.free) (sym (fits.others lock is refl ∙ lies)) (head e refl))
      (λ can.
      let t : State = after shape s (steps.Claim cpu e lock) in
      let fits' = claim_fits fits bounds cpu e lock l1 is refl made can in
      follows_step bounds t (steps.Rehome cpu e (homes.Hand cpu)) (does (steps.Give cpu lock new) ∷ more) fits'.placed tt
      (λ can'.
      let u : State = after shape t (steps.Rehome cpu e (homes.Hand cpu)) in
      let fits2 = away_fits e l1 new t fits' (omega (arith, times_cons_same e P, times_append e (e ∷ P) [])) (ap (λ (xs : List ℕ). local_lists (drop 1 ll.free) xs) (without_head e P)) can' in
      gives bounds lru cpu c is s more fits u new new lock is refl fits2 (gives_same fits2 bounds lock new is refl (lists_here lock new lists)) next))
  steal_turn (stolen.Pending e) first second ll lies head pending next =
      let lock : DomainId = Local c in
      let P : List ℕ = elements_of ll.pending in
      let l : Lists = local_lists ll.free P in
      let new : Lists = of_local bounds lru cpu c is s more fits (local_after (local.Steal (stolen.Pending e) first second) ll) in
      let few : times e P ≤ 1 = omega (arith, few_rows bounds lru fits lock is refl e, ap (λ (k : Lists). times e (rows k)) lies, times_append e P []) in
      let start : Fits shape base owed none (with_lists lock l lists) s = fits_alike fits base owed none (with_lists lock l lists) (λ b. refl) (λ b. refl) (λ b. refl) (λ other _. sym (put_back lock l lists lies other)) in
      follows_step bounds s (steps.Rehome cpu e (homes.Hand cpu)) (does (steps.Give cpu lock new) ∷ more) fits.placed tt
      (λ can.
      let t : State = after shape s (steps.Rehome cpu e (homes.Hand cpu)) in
      let fits' = away_fits e l new s start (omega (arith, pending e refl, times_append e P [])) (ap (λ (xs : List ℕ). local_lists ll.free xs) (without_rows e ll.pending few)) can in
      gives bounds lru cpu c is s more fits t new new lock is refl fits' (gives_same fits' bounds lock new is refl (lists_here lock new lists)) next)
  steal_turn stolen.Nothing first second ll lies head pending next =
      let l : Lists = local_lists ll.free (elements_of ll.pending) in
      let start : Fits shape base owed none (with_lists (Local c) l lists) s = fits_alike fits base owed none (with_lists (Local c) l lists) (λ b. refl) (λ b. refl) (λ b. refl) (λ other _. sym (put_back (Local c) l lists lies other)) in
      gives bounds lru cpu c is s more fits s l l (Local c) is refl start (gives_same fits bounds (Local c) l is refl lies) next

  -- What isn't on a CPU's lists doesn't lie there.
  lies_not : (e : ℕ) (t : State) → Fits shape base owed none lists t → (ll : LocalLists) → lists (Local c) ≡ local_lists ll.free (elements_of ll.pending) → e < shape.elements → times e ll.free ≡ 0 → times e (elements_of ll.pending) ≡ 0
      → IsFreeOrInHand cpu (t.owner e) → t.home e ≡ homes.In (Local c) → ⊥
  lies_not e t fits' ll lies real no_free no_row may home =
      let lock : DomainId = Local c in
      let k : ℕ = lock_number shape lock in
      let here : places.lies_at k (fits'.placed.place e) ≡ true = place_of_home shape lock (fits'.placed.place e) lru (sym (fits'.placed.placed.homes e real) ∙ home) in
      let free_is : times e (t.lists k).free ≡ 0 = ap (λ (l : Lists). times e l.free) (fits'.others lock is refl ∙ lies) ∙ no_free in
      let rows_are : times e (rows (t.lists k)) ≡ 0 = ap (λ (l : Lists). times e (rows l)) (fits'.others lock is refl ∙ lies) ∙ times_append e (elements_of ll.pending) [] ∙ ap (λ (n : ℕ). n + 0) no_row in
      let at : ltb e shape.elements ≡ true = lt-ltb e shape.elements real in
      by (t.owner e) may
      (sym free_is ∙ fits'.placed.placed.free k e ∙ ap (λ (b : Bool). one (b && (is_free (t.owner e) && places.lies_at k (fits'.placed.place e)))) at ∙ ap (λ (b : Bool). one (true && (is_free (t.owner e) && b))) here)
      (sym rows_are ∙ fits'.placed.placed.rows k e ∙ ap (λ (b : Bool). one (b && places.has_row (is_lru shape.kind) (lock_named shape k) (t.owner e) (places.lies_at k (fits'.placed.place e)))) at
      ∙ ap (λ (l : DomainId). one (true && places.has_row (is_lru shape.kind) l (t.owner e) (places.lies_at k (fits'.placed.place e)))) (named_by_number shape lock is)
      ∙ ap (λ (b : Bool). one (true && places.has_row b lock (t.owner e) (places.lies_at k (fits'.placed.place e)))) lru ∙ ap (λ (b : Bool). one (true && places.has_row true lock (t.owner e) b)) here)
    where
      by : (o : Owner) → IsFreeOrInHand cpu o → 0 ≡ one (true && (is_free o && true)) → 0 ≡ one (true && places.has_row true (Local c) o true) → ⊥
      by owners.Free may free row = absurd (omega (arith, free))
      by (owners.Bucket b) may free row = may
      by (owners.Hand h) may free row = absurd (omega (arith, row))

  -- the owner of what is carried
  carried_hand : (e : ℕ) (t : State) → Fits shape base owed none lists t → e < shape.elements → t.home e ≡ homes.Hand cpu → is_free (t.owner e) ≡ false
  carried_hand e t fits' real home = by (fits'.placed.place e) (sym (fits'.placed.placed.homes e real) ∙ home) (fits'.placed.placed.places e real)
    where
      by : (p : places.ElementPlace) → places.home_of_place shape p ≡ homes.Hand cpu → places.MayLie shape e (t.owner e) p → is_free (t.owner e) ≡ false
      by (places.under_lock k) told may = absurd (let same : homes.In (lock_named shape k) ≡ homes.Hand cpu = sym (ap (λ (b : Bool). cond b (homes.In (lock_named shape k)) homes.Unlisted) lru) ∙ told in absurd cc)
      by (places.carried h) told may = ap is_free may.1

  -- An addition: its lock is taken for it alone, so that what comes there is carried.
  pub add_turn : (hash e cursor : ℕ) (ll : LocalLists) → lists (Local c) ≡ of_local bounds lru cpu c is s more fits ll → has_row e ll.pending ≡ false → times e ll.free ≡ 0
      → ((t : State) → Fits shape base owed none (with_lists (Local c) (of_local bounds lru cpu c is s more fits (local_after (local.Add hash e cursor) ll)) lists) t → Follows shape t more)
      → Follows shape s (does (steps.Take cpu (Local c)) ∷ does (steps.Rehome cpu e (homes.In (Local c))) ∷ does (steps.Give cpu (Local c) (of_local bounds lru cpu c is s more fits (local_after (local.Add hash e cursor) ll))) ∷ more)
  unfolding ListsAllow local_after
  add_turn hash e cursor ll lies no_row no_free next =
      let lock : DomainId = Local c in
      let k : ℕ = lock_number shape lock in
      let P : List ℕ = elements_of ll.pending in
      let new : Lists = local_lists ll.free (e ∷ P) in
      follows_step bounds s (steps.Take cpu lock) (does (steps.Rehome cpu e (homes.In lock)) ∷ does (steps.Give cpu lock new) ∷ more) fits.placed tt
      (λ took.
      let t : State = after shape s (steps.Take cpu lock) in
      let fits' = take_fits fits bounds cpu lock took in
      follows_step bounds t (steps.Rehome cpu e (homes.In lock)) (does (steps.Give cpu lock new) ∷ more) fits'.placed tt
      (λ can.
      let u : State = after shape t (steps.Rehome cpu e (homes.In lock)) in
      let home : t.home e ≡ homes.Hand cpu = carried took t fits' can.real can.to_there.1 (t.home e) refl can.from_there in
      let owner : is_free (t.owner e) ≡ false = carried_hand e t fits' can.real home in
      let joining : joined_by lock (t.owner e) e (t.lists k) ≡ new =
      ap (λ (b : Bool). cond b (with_free e (t.lists k)) (with_row lock e (t.lists k))) owner ∙ ap (with_row lock e) (fits'.others lock is refl ∙ lies) in
      let after_is : after_joining shape (homes.In lock) (t.owner e) e (after_leaving shape (t.home e) (t.owner e) e t.lists) ≡ put t.lists k new =
      ap (λ (h : Home). after_joining shape (homes.In lock) (t.owner e) e (after_leaving shape h (t.owner e) e t.lists)) home ∙ ap (put t.lists k) joining in
      let fits2 = list_changes fits' lock is refl new u (step_keeps_places shape t (steps.Rehome cpu e (homes.In lock)) bounds can fits'.placed) after_is in
      gives bounds lru cpu c is s more fits u new new lock is refl fits2 (gives_same fits2 bounds lock new is refl (lists_here lock new lists)) next))
    where
      carried : CanTake shape s cpu (Local c) → (t : State) → Fits shape base owed none lists t → e < shape.elements → IsFreeOrInHand cpu (t.owner e) → (h : Home) → t.home e ≡ h → MayLeave shape (after shape s (steps.Take cpu (Local c))) cpu h → t.home e ≡ homes.Hand cpu
      carried took t fits' real owner homes.Unlisted home may = absurd may
      carried took t fits' real owner (homes.Hand h) home may = home ∙ ap homes.Hand may
      carried took t fits' real owner (homes.In other) home may =
          by_test (lock_number shape other) (lock_number shape (Local c)) (λ b. t.home e ≡ homes.Hand cpu)
          (λ same. absurd (lies_not e t fits' ll lies real no_free (row_none e ll.pending no_row) owner
          (home ∙ ap homes.In (sym (named_by_number shape other may.is_lock) ∙ ap (lock_named shape) same ∙ named_by_number shape (Local c) is))))
          (λ apart. absurd (
          let held : s.holder (lock_number shape other) ≡ Some cpu = sym (put_else s.holder (lock_number shape (Local c)) (Some cpu) (lock_number shape other) apart) ∙ may.held in
          let low = took.above (lock_number shape other) held in
          let high = some_rank (lock_named shape (lock_number shape other)) in
          omega (arith, low, high)))
