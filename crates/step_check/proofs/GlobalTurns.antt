-- A turn of the global lists that words allow may be done wherever what it flushes lies, on the CPU's lists or in its hand, if none of it
-- is free; and the lists after it.
use Rattle.std.proofs.Common.{◌≡◌, ◌≢◌, ℕ, suc, ◌+◌, ◌<◌, ◌≤◌, Bool, true, false, not, ◌&&◌, cond, eqb, ltb, List, [], ◌∷◌, ◌++◌, map, drop, take-append-drop, Option, Some, refl, ap, ◌∙◌, sym, subst, ⊎_elim, arith}
use Rattle.std.specs.Prelude.{IsTrue}
use Rattle.std.specs.List.{flat_map}
use Rattle.std.proofs.lemmas.Bool.{cases_lt, cond-true, eq-eqb, lt-ltb}
use Rattle.map_types.specs.declared.attr.Shape.{Shape}
use Rattle.map_types.specs.declared.kind.DomainId.{DomainId}
use Rattle.map_types.specs.declared.kind.DomainId.TheVariants.{Local, Global, CpuLru, Bucket, Freelist}
use Rattle.map_types.specs.Kind.{is_lru}
use Rattle.map_types.specs.Shape.{HasBounds}
use Rattle.map_types.specs.ElementLists.{put, one, times, without, IsIn}
use Rattle.map_types.proofs.RowLemmas.{by_test, times_append}
use Rattle.place_words.specs.declared.history.Part.TheVariants as parts
use Rattle.place_words.specs.declared.home.Home.{Home}
use Rattle.place_words.specs.declared.home.Home.TheVariants as homes
use Rattle.place_words.specs.declared.list_part.GlobalPart.{GlobalPart}
use Rattle.place_words.specs.declared.list_part.GlobalPart.TheVariants as global
use Rattle.place_words.specs.declared.step.Lists.{Lists}
use Rattle.place_words.specs.declared.step.Step.{Step}
use Rattle.place_words.specs.declared.step.Step.TheVariants as steps
use Rattle.place_words.specs.declared.visits.Flush.{Flush}
use Rattle.place_words.specs.declared.visits.ShrinkNote.{ShrinkNote}
use Rattle.place_words.specs.declared.visits.Visit.{Visit}
use Rattle.place_words.specs.Globals.{AllowsOnGlobal, global_after, global_target, flushed_elements}
use Rattle.place_words.specs.Histories.{in_global}
use Rattle.place_words.specs.Interleaving.{Event, does, set_lists, global_steps, freed_steps}
use Rattle.place_words.specs.Locks.{is_lock, lock_number, lock_named}
use Rattle.place_words.specs.Openings.{is_free}
use Rattle.place_words.specs.Places.{Placed, under_lock, MayLie, MayLieUnder, has_row, lies_at}
use Rattle.place_words.specs.RowMoves.{IsOnce}
use Rattle.place_words.specs.Sets.{ListSet}
use Rattle.place_words.specs.State.{State, rows, HasCursorInside}
use Rattle.place_words.specs.Steps.{IsEnabled, after, with_row, without_row, with_free, without_free, after_leaving, after_joining}
use Rattle.place_words.specs.Takings.{freed_by}
use Rattle.place_words.proofs.Cursors.{global_cursor}
use Rattle.place_words.proofs.ElementLemmas.{times_cons_same}
use Rattle.place_words.proofs.KeepLaws.{keeps_elements}
use Rattle.place_words.proofs.LockLemmas.{named_by_number}
use Rattle.place_words.proofs.RowLemmas.{lies_is, rows_with_row_same, rows_with_row_other, rows_without_row_same, rows_without_row_other}
use Rattle.place_words.proofs.StepLaws.{step_keeps_places}
use Rattle.core_runs.specs.Words.{words_of, LeavesWord, RunsByWords, WordsAllow, ListsAllow}
use Rattle.core_runs.proofs.Ties.{with_lists}
use Rattle.core_runs.proofs.Fits.{Fits, fits_alike, list_changes, settle_fits, give_list_fits}
use Rattle.core_runs.proofs.GlobalReduced.{once_global}
use Rattle.core_runs.proofs.OwnNest.{put_back, put_twice}
use Rattle.core_runs.proofs.OwnTurns.{stacked}
use Rattle.core_runs.proofs.Reduced.{none}
use Rattle.core_runs.proofs.RefillNest.{three_parts, stacked_both}
use Rattle.core_runs.proofs.Rehomes.{LiesThere}
use Rattle.core_runs.proofs.SetsReduced.{few_rows, row_left, times_first, gives_total, cursor_there}
use Rattle.core_runs.proofs.SharedMoves.{both_lists, both_local, global_local, local_global, local_again}
use Rattle.core_runs.proofs.SharedReduced.{free_here, row_here, moved_fits}
use Rattle.core_runs.proofs.Words.{place_of_home}
use Rattle.step_check.proofs.Reaches.{Reaches, reaches_step}
use Rattle.step_check.proofs.SharedCounts.{global_rows, flushed_outside}
use Rattle.step_check.proofs.SharedTurns.{no_own, no_free}

-- of local lists the CPU holds only its own
abbrev pub HoldsOnlyIts : Shape → ℕ → State → Type 0
HoldsOnlyIts shape cpu s = (d : ℕ) → IsTrue (is_lock shape (Local d)) → s.holder (lock_number shape (Local d)) ≡ Some cpu → d ≡ cpu

-- what is left of listed elements when some are flushed that may be listed here
pub record LeftOf (es : List ℕ) (was now : Lists) : Type 0 where
  pub gone : (x : ℕ) → 1 ≤ times x es → times x (rows now) ≡ 0
  pub kept : (x : ℕ) → times x es ≡ 0 → times x (rows now) ≡ times x (rows was)

left_first : (e : ℕ) (es : List ℕ) (was then_is now : Lists) → times e (rows then_is) ≡ 0 → ((x : ℕ) → x ≢ e → times x (rows then_is) ≡ times x (rows was)) → LeftOf es then_is now → LeftOf (e ∷ es) was now
left_first e es was then_is now gone_is kept_is left = record { gone = gone_all; kept = kept_all }
  where
    if_none : (x : ℕ) → x ≡ e → times x (rows now) ≡ 0
    if_none x same = ⊎_elim
        (λ (some : 0 < times x es). left.gone x some)
        (λ (none_is : times x es ≤ 0). omega (arith, left.kept x (omega (arith, none_is)), ap (λ (y : ℕ). times y (rows then_is)) same, gone_is))
        (cases_lt 0 (times x es))

    gone_all : (x : ℕ) → 1 ≤ times x (e ∷ es) → times x (rows now) ≡ 0
    gone_all x = by_test e x (λ b. 1 ≤ cond b (suc (times x es)) (times x es) → times x (rows now) ≡ 0) (λ same _. if_none x (sym same)) (λ other some. left.gone x some)

    kept_all : (x : ℕ) → times x (e ∷ es) ≡ 0 → times x (rows now) ≡ times x (rows was)
    kept_all x = by_test e x (λ b. cond b (suc (times x es)) (times x es) ≡ 0 → times x (rows now) ≡ times x (rows was))
        (λ same some. absurd (omega (arith, some))) (λ other none_is. left.kept x none_is ∙ kept_is x (λ same. other (sym same)))

row_more : (lock : DomainId) (x e : ℕ) (l : Lists) → times e (rows (with_row lock e l)) ≡ times e (rows l) + 1 → times x (rows (with_row lock e l)) ≡ times x (e ∷ []) + times x (rows l)
row_more lock x e l more =
    by_test e x (λ b. times x (rows (with_row lock e l)) ≡ cond b 1 0 + times x (rows l))
    (λ same. subst (λ (y : ℕ). times y (rows (with_row lock e l)) ≡ 1 + times y (rows l)) same (omega (arith, more)))
    (λ other. omega (arith, rows_with_row_other lock x e l (λ same. other (sym same))))

module _ {shape : Shape} (bounds : HasBounds shape) (lru : is_lru shape.kind ≡ true) (common : IsTrue shape.common) where
  -- what isn't free and has the global lists as its home is listed there
  listed_globally : {base out ins : ℕ → List ℕ} {lists : DomainId → Lists} {s : State} → Fits shape base out ins lists s → (e : ℕ) → e < shape.elements → is_free (s.owner e) ≡ false → s.home e ≡ homes.In Global → times e (rows (lists Global)) ≡ 1
  listed_globally {lists = lists} {s = s} fits e real owned home =
      let k : ℕ = lock_number shape Global in
      let p : Placed shape s = fits.placed in
      let lies : lies_at k (p.place e) ≡ true = place_of_home shape Global (p.place e) lru (sym (p.placed.homes e real) ∙ home) in
      let row : has_row (is_lru shape.kind) (lock_named shape k) (s.owner e) (lies_at k (p.place e)) ≡ true =
      ap (λ (l : DomainId). has_row (is_lru shape.kind) l (s.owner e) (lies_at k (p.place e))) (named_by_number shape Global common)
      ∙ ap (λ (b : Bool). b && (not (is_free (s.owner e)) && lies_at k (p.place e))) lru ∙ ap (λ (b : Bool). not b && lies_at k (p.place e)) owned ∙ lies in
      ap (λ (l : Lists). times e (rows l)) (sym (fits.others Global common refl))
      ∙ p.placed.rows k e ∙ ap (λ (b : Bool). one (ltb e shape.elements && b)) row ∙ ap (λ (b : Bool). one (b && true)) (lt-ltb e shape.elements real)

  -- nothing lies under a bucket
  no_bucket_home : {s : State} → Placed shape s → (b e : ℕ) → IsTrue (is_lock shape (Bucket b)) → e < shape.elements → s.home e ≡ homes.In (Bucket b) → ⊥
  no_bucket_home {s} p b e is real home =
      let k : ℕ = lock_number shape (Bucket b) in
      let at : p.place e ≡ under_lock k = lies_is k (p.place e) (place_of_home shape (Bucket b) (p.place e) lru (sym (p.placed.homes e real) ∙ home)) in
      subst (MayLieUnder shape e) (named_by_number shape (Bucket b) is) (subst (MayLie shape e (s.owner e)) at (p.placed.places e real))

  module _ (cpu : ℕ) (local_is : IsTrue (is_lock shape (Local cpu))) {base out ins : ℕ → List ℕ} (lists : DomainId → Lists) (Then : State → Type 0) where
    reach_flush : (es : List ℕ) (l g : Lists) (s : State) (events : List Event) → Fits shape base out ins (both_lists cpu l g lists) s → HoldsOnlyIts shape cpu s
        → ((x : ℕ) → 1 ≤ times x es → is_free (s.owner x) ≡ false) → ((x : ℕ) → 1 ≤ times x es → times x (rows g) ≡ 0) → ((x : ℕ) → times x es ≤ 1)
        → ((t : State) (l' g' : Lists) → l'.free ≡ l.free → LeftOf es l l' → g'.free ≡ g.free → ((x : ℕ) → times x (rows g') ≡ times x (rows g) + times x es)
        → Fits shape base out ins (both_lists cpu l' g' lists) t → Reaches shape Then t events)
        → Reaches shape Then s (map does (map (λ e. steps.Rehome cpu e (homes.In Global)) es) ++ events)
    unfolding RunsByWords WordsAllow ListsAllow
    reach_flush [] l g s events fits only owned outside once next = next s l g refl (record { gone = λ x some. absurd (omega (arith, some)); kept = λ x _. refl }) refl (λ x. omega arith) fits
    reach_flush (e ∷ es) l g s events fits only owned outside once next =
        goes (λ l1 free_is gone_is kept_is fits1.
        reach_flush es l1 (with_row Global e g) (after shape s (steps.Rehome cpu e (homes.In Global))) events fits1 only
        (λ x some. owned x (omega (arith, times_first x e es, some)))
        (λ x some. omega (arith, once x, times_first x e es, some, outside x (omega (arith, times_first x e es, some)), row_more Global x e g (rows_with_row_same Global e g refl)))
        (λ x. omega (arith, once x, times_first x e es))
        (λ t l' g' l_free left g_free g_rows fits'. next t l' g' (l_free ∙ free_is) (left_first e es l l1 l' gone_is kept_is left) g_free
        (λ x. omega (arith, g_rows x, times_first x e es, row_more Global x e g (rows_with_row_same Global e g refl))) fits'))
      where
        step : Step
        step = steps.Rehome cpu e (homes.In Global)

        more : List Event
        more = map does (map (λ e. steps.Rehome cpu e (homes.In Global)) es) ++ events

        now_global : Lists
        now_global = with_row Global e g

        its : is_free (s.owner e) ≡ false
        its = owned e (let here = times_cons_same e es in omega (arith, here))

        -- wherever it lay, it has no row on the CPU's lists now
        Rest : Type 0
        Rest = (l1 : Lists) → l1.free ≡ l.free → times e (rows l1) ≡ 0 → ((x : ℕ) → x ≢ e → times x (rows l1) ≡ times x (rows l)) → Fits shape base out ins (both_lists cpu l1 now_global lists) (after shape s step) → Reaches shape Then (after shape s step) more

        from_hand : Rest → (c : ℕ) → s.home e ≡ homes.Hand c → IsEnabled shape s step → Reaches shape Then (after shape s step) more
        from_hand rest c home can =
            let lists_are : (after shape s step).lists ≡ put s.lists (lock_number shape Global) now_global =
            ap (λ (h : Home). after_joining shape (homes.In Global) (s.owner e) e (after_leaving shape h (s.owner e) e s.lists)) home
            ∙ ap (put s.lists (lock_number shape Global)) (ap (λ (b : Bool). cond b (with_free e (s.lists (lock_number shape Global))) (with_row Global e (s.lists (lock_number shape Global)))) its ∙ ap (with_row Global e) (fits.others Global common refl)) in
            rest l refl
            (by_none (times e (rows l)) (λ some.
            let lies = row_here bounds lru fits (Local cpu) e local_is refl (subst (λ (k : Lists). IsIn e (rows k)) (sym (both_local cpu l g lists)) some) in
            two_homes c (Local cpu) (sym home ∙ lies.home)))
            (λ x other. refl)
            (fits_alike (list_changes fits Global common refl now_global (after shape s step) (step_keeps_places shape s step bounds can fits.placed) lists_are) base out ins (both_lists cpu l now_global lists) (λ b. refl) (λ b. refl) (λ b. refl)
            (λ other _. put_twice Global now_global g (with_lists (Local cpu) l lists) other))
          where
            by_none : (n : ℕ) → (0 < n → ⊥) → n ≡ 0
            by_none n refuses = ⊎_elim (λ (some : 0 < n). absurd (refuses some)) (λ (none_is : n ≤ 0). omega (arith, none_is)) (cases_lt 0 n)

            two_homes : (c : ℕ) (lock : DomainId) → homes.Hand c ≡ homes.In lock → ⊥
            two_homes c lock same = cc

        from_local : Rest → e < shape.elements → s.home e ≡ homes.In (Local cpu) → IsEnabled shape s step → Reaches shape Then (after shape s step) more
        from_local rest real home can =
            let at : both_lists cpu l g lists (Local cpu) ≡ l = both_local cpu l g lists in
            let lies : LiesThere shape s (Local cpu) e false = record { real = real; home = home; is = its } in
            let few : times e (rows l) ≤ 1 = subst (λ (k : Lists). times e (rows k) ≤ 1) at (few_rows bounds lru fits (Local cpu) local_is refl e) in
            let moved = moved_fits bounds lru fits cpu (Local cpu) Global e false (without_row e l) (with_row Global e g) (λ same. absurd cc) local_is common refl refl lies (ap (without_row e) at) refl can in
            rest (without_row e l) refl (rows_without_row_same e l few) (λ x other. rows_without_row_other x e l other)
            (fits_alike moved base out ins (both_lists cpu (without_row e l) (with_row Global e g) lists) (λ b. refl) (λ b. refl) (λ b. refl) (λ other _. global_local cpu l g (without_row e l) (with_row Global e g) lists other))

        goes : Rest → Reaches shape Then s (does step ∷ more)
        goes rest words = reaches_step bounds Then s step more fits.placed tt (λ can. by (s.home e) refl words.0.from_there can) words
          where
            by : (home : Home) → s.home e ≡ home → LeavesWord shape (words_of s) cpu home → IsEnabled shape s step → Reaches shape Then (after shape s step) more
            by homes.Unlisted home leaves can = absurd leaves
            by (homes.Hand c) home leaves can = from_hand rest c home can
            by (homes.In (Local d)) home leaves can = from_local rest can.real (home ∙ ap (λ (n : ℕ). homes.In (Local n)) (only d leaves.is_lock leaves.held)) can
            by (homes.In Global) home leaves can =
                let listed : times e (rows g) ≡ 1 = listed_globally fits e can.real its home in
                absurd (omega (arith, listed, outside e (let here = times_cons_same e es in omega (arith, here))))
            by (homes.In (CpuLru d)) home leaves can = absurd (no_own shape.common (is_lru shape.kind) (ltb d shape.cpus) common leaves.is_lock)
            by (homes.In (Bucket b)) home leaves can = absurd (no_bucket_home fits.placed b e leaves.is_lock can.real home)
            by (homes.In (Freelist d)) home leaves can = absurd (no_free (is_lru shape.kind) (ltb d shape.cpus) lru leaves.is_lock)

    reach_freeing : (es left : List ℕ) (l g : Lists) (s : State) (events : List Event) → Fits shape base out ins (both_lists cpu l g lists) s → g.free ≡ es ++ left
        → ((t : State) (l' g' : Lists) → l'.free ≡ stacked es l.free → rows l' ≡ rows l → g'.free ≡ left → rows g' ≡ rows g → Fits shape base out ins (both_lists cpu l' g' lists) t → Reaches shape Then t events)
        → Reaches shape Then s (map does (map (λ e. steps.Rehome cpu e (homes.In (Local cpu))) es) ++ events)
    unfolding ListsAllow
    reach_freeing [] left l g s events fits free next = next s l g refl refl free refl fits
    reach_freeing (e ∷ es) left l g s events fits free next =
        let at : both_lists cpu l g lists (Local cpu) ≡ l = both_local cpu l g lists in
        let inside : IsIn e g.free = subst (IsIn e) (sym free) (let here = times_cons_same e (es ++ left) in omega (arith, here)) in
        let removed : without e g.free ≡ es ++ left = ap (without e) free ∙ cond-true (eqb e e) (es ++ left) (e ∷ without e (es ++ left)) (eq-eqb e e refl) in
        reaches_step bounds Then s (steps.Rehome cpu e (homes.In (Local cpu))) (map does (map (λ e. steps.Rehome cpu e (homes.In (Local cpu))) es) ++ events) fits.placed tt
        (λ can.
        let lies = free_here bounds lru fits Global e common refl inside in
        let moved = moved_fits bounds lru fits cpu Global (Local cpu) e true (without_free e g) (with_free e l) (λ same. absurd cc) common local_is refl refl lies refl (ap (with_free e) at) can in
        reach_freeing es left (with_free e l) (without_free e g) (after shape s (steps.Rehome cpu e (homes.In (Local cpu)))) events
        (fits_alike moved base out ins (both_lists cpu (with_free e l) (without_free e g) lists) (λ b. refl) (λ b. refl) (λ b. refl) (λ other _. local_global cpu l g (with_free e l) (without_free e g) lists other))
        removed next)

    reach_freed : (es : List ℕ) (l g : Lists) (s : State) (events : List Event) → Fits shape base out ins (both_lists cpu l g lists) s → ((x : ℕ) → times x es ≤ times x (rows g))
        → ((t : State) (l' g' : Lists) → l'.free ≡ stacked es l.free → ((x : ℕ) → times x (rows l') ≡ times x (rows l)) → g'.free ≡ g.free → ((x : ℕ) → times x (rows g') + times x es ≡ times x (rows g))
        → Fits shape base out ins (both_lists cpu l' g' lists) t → Reaches shape Then t events)
        → Reaches shape Then s (map does (flat_map (freed_steps cpu) es) ++ events)
    unfolding ListsAllow
    reach_freed [] l g s events fits there next = next s l g refl (λ x. refl) refl (λ x. omega arith) fits
    reach_freed (e ∷ es) l g s events fits there next =
        let at : both_lists cpu l g lists (Local cpu) ≡ l = both_local cpu l g lists in
        let inside : IsIn e (rows g) = omega (arith, there e, times_cons_same e es) in
        let once : times e (rows g) ≤ 1 = few_rows bounds lru fits Global common refl e in
        let left : (x : ℕ) → times x (rows (without_row e g)) + times x (e ∷ []) ≡ times x (rows g) = λ x. row_left x e g once inside in
        let more : List Event = map does (flat_map (freed_steps cpu) es) ++ events in
        reaches_step bounds Then s (steps.Rehome cpu e (homes.In (Local cpu))) (does (steps.Settle cpu e (Local cpu)) ∷ more) fits.placed tt
        (λ can.
        let t : State = after shape s (steps.Rehome cpu e (homes.In (Local cpu))) in
        let lies = row_here bounds lru fits Global e common refl inside in
        let joined : Lists = with_row (Local cpu) e l in
        let moved = moved_fits bounds lru fits cpu Global (Local cpu) e false (without_row e g) joined (λ same. absurd cc) common local_is refl refl lies refl (ap (with_row (Local cpu) e) at) can in
        let midway : Fits shape base out ins (both_lists cpu joined (without_row e g) lists) t =
        fits_alike moved base out ins (both_lists cpu joined (without_row e g) lists) (λ b. refl) (λ b. refl) (λ b. refl) (λ other _. local_global cpu l g joined (without_row e g) lists other) in
        let midway_at : both_lists cpu joined (without_row e g) lists (Local cpu) ≡ joined = both_local cpu joined (without_row e g) lists in
        let back : Lists = with_free e (without_row e joined) in
        reaches_step bounds Then t (steps.Settle cpu e (Local cpu)) more midway.placed tt
        (λ can'.
        let row_in : IsIn e (rows joined) = let same = rows_with_row_same (Local cpu) e l refl in omega (arith, same) in
        let row_once : times e (rows joined) ≤ 1 = subst (λ (k : Lists). times e (rows k) ≤ 1) midway_at (few_rows bounds lru midway (Local cpu) local_is refl e) in
        let settled = settle_fits midway bounds cpu e (Local cpu) back local_is refl (ap (λ (k : Lists). with_free e (without_row e k)) midway_at) can' in
        reach_freed es back (without_row e g) (after shape t (steps.Settle cpu e (Local cpu))) events
        (fits_alike settled base out ins (both_lists cpu back (without_row e g) lists) (λ b. refl) (λ b. refl) (λ b. refl) (λ other _. local_again cpu joined (without_row e g) back lists other))
        (λ x. omega (arith, there x, left x, times_first x e es))
        (λ u l' g' l_free l_rows g_free g_rows fits'. next u l' g' l_free (λ x. omega (arith, l_rows x, row_left x e joined row_once row_in, row_more (Local cpu) x e l (rows_with_row_same (Local cpu) e l refl))) g_free
        (λ x. omega (arith, g_rows x, left x, times_first x e es)) fits')))

  -- The turn: the CPU's lists lose what is flushed from them, and gain what is free or freed.
  pub reach_global : {base owed : ℕ → List ℕ} {lists : DomainId → Lists} (Then : State → Type 0) (cpu : ℕ) (flushed : List Flush) (active inactive : List Visit) (free : List ℕ) (shrink : Option ShrinkNote) (set : ListSet) (l : Lists) (s : State) (more : List Event)
      → IsTrue (is_lock shape (Local cpu)) → Fits shape base owed none lists s → lists (Local cpu) ≡ l → lists Global ≡ set_lists set → AllowsOnGlobal (global.Turn flushed active inactive free shrink) set
      → HoldsOnlyIts shape cpu s → ((x : ℕ) → 1 ≤ times x (flushed_elements flushed) → is_free (s.owner x) ≡ false) → ((x : ℕ) → times x (freed_by shrink) ≤ times x (rows (set_lists set)) + times x (flushed_elements flushed))
      → ((t : State) (l' : Lists) → l'.free ≡ stacked (free ++ freed_by shrink) l.free → LeftOf (flushed_elements flushed) l l'
      → Fits shape base owed none (with_lists Global (set_lists (global_after (global.Turn flushed active inactive free shrink) set)) (with_lists (Local cpu) l' lists)) t → Reaches shape Then t more)
      → Reaches shape Then s (map does (global_steps cpu (global.Turn flushed active inactive free shrink)) ++ does (steps.Give cpu Global (set_lists (global_after (global.Turn flushed active inactive free shrink) set))) ∷ more)
  unfolding ListsAllow global_after
  reach_global {base = base} {owed = owed} {lists = lists} Then cpu flushed active inactive free shrink set l s more local_is fits local_lies global_lies allowed only owned freed_in next =
      let part : GlobalPart = global.Turn flushed active inactive free shrink in
      let F : List ℕ = flushed_elements flushed in
      let es : List ℕ = freed_by shrink in
      let g : Lists = set_lists set in
      let left : List ℕ = drop global_target set.free in
      let new : Lists = set_lists (global_after part set) in
      let gives : List Event = does (steps.Give cpu Global new) ∷ more in
      let is_once : IsOnce (in_global set) = once_global bounds lru common fits set global_lies in
      let split : set.free ≡ free ++ left = sym (take-append-drop global_target set.free) ∙ ap (λ (xs : List ℕ). xs ++ left) (sym allowed.2) in
      let cursor : HasCursorInside new = global_cursor part set (cursor_there bounds lru fits Global g common refl global_lies) in
      let outside = flushed_outside set flushed allowed.0 in
      let start : Fits shape base owed none (both_lists cpu l g lists) s =
      fits_alike fits base owed none (both_lists cpu l g lists) (λ b. refl) (λ b. refl) (λ b. refl)
      (λ other _. sym (put_back Global g (with_lists (Local cpu) l lists) global_lies other ∙ put_back (Local cpu) l lists local_lies other)) in
      subst (Reaches shape Then s) (sym (three_parts (map (λ e. steps.Rehome cpu e (homes.In Global)) F) (map (λ e. steps.Rehome cpu e (homes.In (Local cpu))) free) (flat_map (freed_steps cpu) es) gives))
      (reach_flush cpu local_is lists Then F l g s _ start only owned (λ x some. omega (arith, (outside x).1 some, global_rows set x)) (λ x. (outside x).0)
      (λ t l1 g1 l1_free l1_rows g1_free g1_rows fits1.
      reach_freeing cpu local_is lists Then free left l1 g1 t _ fits1 (g1_free ∙ split)
      (λ u l2 g2 l2_free l2_rows g2_free g2_rows fits2.
      reach_freed cpu local_is lists Then es l2 g2 u gives fits2 (λ x. omega (arith, freed_in x, g1_rows x, ap (times x) g2_rows))
      (λ v l3 g3 l3_free l3_rows g3_free g3_rows fits3.
      reaches_step bounds Then v (steps.Give cpu Global new) more fits3.placed
      (gives_total bounds lru (with_lists (Local cpu) l3 lists) g3 new Global common refl fits3 tt (sym (g3_free ∙ g2_free))
      (λ x. omega (arith, keeps_elements shape cpu (parts.Global part) (in_global set) allowed is_once x, times_append x set.free (rows g), times_append x left (rows new), times_append x free es, times_append x free left, ap (times x) split, g1_rows x, ap (times x) g2_rows, g3_rows x))
      cursor)
      (λ can. next (after shape v (steps.Give cpu Global new)) l3
      (l3_free ∙ ap (stacked es) (l2_free ∙ ap (stacked free) l1_free) ∙ sym (stacked_both free es l.free))
      (record { gone = λ x some. l3_rows x ∙ ap (times x) l2_rows ∙ l1_rows.gone x some; kept = λ x none_is. l3_rows x ∙ ap (times x) l2_rows ∙ l1_rows.kept x none_is })
      (fits_alike (give_list_fits fits3 bounds cpu Global new common refl can) base owed none (with_lists Global new (with_lists (Local cpu) l3 lists)) (λ b. refl) (λ b. refl) (λ b. refl) (λ other _. put_twice Global new g3 (with_lists (Local cpu) l3 lists) other)))))))
