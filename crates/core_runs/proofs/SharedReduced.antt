-- Moves between the lists of a CPU and the global ones in a race: what words allow of them may be done.
use Rattle.std.proofs.Common.{◌≡◌, ◌≢◌, ℕ, ◌+◌, ◌<◌, ◌≤◌, Bool, true, false, ◌&&◌, cond, eqb, List, [], ◌∷◌, ◌++◌, map, refl, ap, ◌∙◌, sym, subst, ⊎_elim, arith}
use Rattle.std.specs.Prelude.{IsTrue, if◌then◌else◌}
use Rattle.std.specs.List.{flat_map}
use Rattle.std.proofs.lemmas.Bool.{cases_Bool, cond-true, cond-false, and_parts, true≢false, eq-eqb}
use Rattle.map_types.specs.declared.attr.Shape.{Shape}
use Rattle.map_types.specs.declared.kind.DomainId.{DomainId}
use Rattle.map_types.specs.declared.kind.DomainId.TheVariants.{Local, Global, Bucket}
use Rattle.map_types.specs.Kind.{is_lru}
use Rattle.map_types.specs.Shape.{HasBounds}
use Rattle.map_types.specs.ElementLists.{put, times, without, IsIn}
use Rattle.map_types.proofs.RowLemmas.{by_test}
use Rattle.place_words.specs.declared.home.Home.{Home}
use Rattle.place_words.specs.declared.home.Home.TheVariants as homes
use Rattle.place_words.specs.Locks.{is_lock, lock_number, lock_named, is_same_lock}
use Rattle.place_words.specs.Openings.{is_free}
use Rattle.place_words.proofs.LockLemmas.{named_by_number, same_lock, one_lock}
use Rattle.place_words.specs.declared.step.Lists.{Lists}
use Rattle.place_words.specs.declared.step.Step.TheVariants as steps
use Rattle.place_words.specs.Places.{home_of_place, has_row, lies_at}
use Rattle.place_words.specs.State.{State, rows, is_bucket}
use Rattle.place_words.specs.Steps.{IsEnabled, after, with_row, without_row, with_free, without_free, left_by, joined_by, after_leaving, after_joining}
use Rattle.place_words.proofs.ElementLemmas.{put_here, put_else, times_cons_same}
use Rattle.place_words.proofs.RowLemmas.{stands_where, lies_is, row_lies, rows_with_row_same, rows_with_row_other}
use Rattle.place_words.proofs.StepLaws.{step_keeps_places}
use Rattle.place_words.specs.Interleaving.{Event, does, freed_steps}
use Rattle.core_runs.specs.Words.{ListsAllow}
use Rattle.core_runs.proofs.Ties.{with_lists}
use Rattle.core_runs.proofs.Fits.{Fits, fits_alike, number_apart, other_sort, settle_fits}
use Rattle.core_runs.proofs.Reduced.{Follows, follows_step}
use Rattle.core_runs.proofs.Rehomes.{LiesThere, home_under, not_free}
use Rattle.core_runs.proofs.SharedMoves.{both_lists, both_local, global_local, local_global, local_again}
use Rattle.core_runs.proofs.SetsReduced.{few_rows, row_left, times_first}
use Rattle.core_runs.proofs.OwnTurns.{stacked}

-- functions of numbers and of names that agree where a lock has lists still do after a change at one
put_list : (shape : Shape) (f : ℕ → Lists) (g : DomainId → Lists) (lock : DomainId) → IsTrue (is_lock shape lock) → ((other : DomainId) → IsTrue (is_lock shape other) → is_bucket other ≡ false → f (lock_number shape other) ≡ g other)
    → (new : Lists) (other : DomainId) → IsTrue (is_lock shape other) → is_bucket other ≡ false → put f (lock_number shape lock) new (lock_number shape other) ≡ with_lists lock new g other
put_list shape f g lock is same new other is_o list =
    ⊎_elim
    (λ (here : is_same_lock lock other ≡ true).
    subst (λ (o : DomainId). put f (lock_number shape lock) new (lock_number shape o) ≡ with_lists lock new g o) (one_lock lock other here)
    (put_here f (lock_number shape lock) new ∙ sym (cond-true (is_same_lock lock lock) new (g lock) (same_lock lock))))
    (λ (differs : is_same_lock lock other ≡ false).
    put_else f (lock_number shape lock) new (lock_number shape other) (number_apart shape other lock is_o is (λ at. true≢false (sym (subst (λ (o : DomainId). is_same_lock lock o ≡ true) (sym at) (same_lock lock)) ∙ differs)))
    ∙ same other is_o list ∙ sym (cond-false (is_same_lock lock other) new (g other) differs))
    (cases_Bool (is_same_lock lock other))

module _ {shape : Shape} (bounds : HasBounds shape) (lru : is_lru shape.kind ≡ true) {base out ins : ℕ → List ℕ} {lists : DomainId → Lists} {s : State} (fits : Fits shape base out ins lists s) where
  home_there : (lock : DomainId) (e : ℕ) → IsTrue (is_lock shape lock) → e < shape.elements → lies_at (lock_number shape lock) (fits.placed.place e) ≡ true → s.home e ≡ homes.In lock
  home_there lock e is real lies =
      fits.placed.placed.homes e real ∙ ap (home_of_place shape) (lies_is (lock_number shape lock) (fits.placed.place e) lies) ∙ home_under shape (lock_number shape lock) lru ∙ ap homes.In (named_by_number shape lock is)

  pub free_here : (lock : DomainId) (e : ℕ) → IsTrue (is_lock shape lock) → is_bucket lock ≡ false → IsIn e (lists lock).free → LiesThere shape s lock e true
  free_here lock e is list inside =
      let number : ℕ = lock_number shape lock in
      let there = stands_where shape.elements e (times e (s.lists number).free) (is_free (s.owner e) && lies_at number (fits.placed.place e)) (fits.placed.placed.free number e)
      (subst (λ (l : Lists). IsIn e l.free) (sym (fits.others lock is list)) inside) in
      let parts = and_parts (is_free (s.owner e)) (lies_at number (fits.placed.place e)) there.stands in
      record { real = there.real; home = home_there lock e is there.real parts.1; is = parts.0 }

  pub row_here : (lock : DomainId) (e : ℕ) → IsTrue (is_lock shape lock) → is_bucket lock ≡ false → IsIn e (rows (lists lock)) → LiesThere shape s lock e false
  row_here lock e is list inside =
      let number : ℕ = lock_number shape lock in
      let there = stands_where shape.elements e (times e (rows (s.lists number))) (has_row (is_lru shape.kind) (lock_named shape number) (s.owner e) (lies_at number (fits.placed.place e))) (fits.placed.placed.rows number e)
      (subst (λ (l : Lists). IsIn e (rows l)) (sym (fits.others lock is list)) inside) in
      let stands : has_row (is_lru shape.kind) lock (s.owner e) (lies_at number (fits.placed.place e)) ≡ true =
      subst (λ (l : DomainId). has_row (is_lru shape.kind) l (s.owner e) (lies_at number (fits.placed.place e)) ≡ true) (named_by_number shape lock is) there.stands in
      record {
        real = there.real;
        home = home_there lock e is there.real (row_lies (is_lru shape.kind) lock (s.owner e) (lies_at number (fits.placed.place e)) list stands);
        is = not_free (s.owner e) (is_lru shape.kind) lock (lies_at number (fits.placed.place e)) stands;
      }

  -- A move from one lock's lists to another's
  pub moved_fits : (cpu : ℕ) (from to : DomainId) (e : ℕ) (free : Bool) (left joined : Lists) → from ≢ to → IsTrue (is_lock shape from) → IsTrue (is_lock shape to) → is_bucket from ≡ false → is_bucket to ≡ false → LiesThere shape s from e free
      → (if free then without_free e (lists from) else without_row e (lists from)) ≡ left → (if free then with_free e (lists to) else with_row to e (lists to)) ≡ joined → IsEnabled shape s (steps.Rehome cpu e (homes.In to))
      → Fits shape base out ins (with_lists to joined (with_lists from left lists)) (after shape s (steps.Rehome cpu e (homes.In to)))
  moved_fits cpu from to e free left joined apart is_from is_to list_from list_to lies left_is joined_is can =
      let a : ℕ = lock_number shape from in
      let b : ℕ = lock_number shape to in
      let numbers : b ≢ a = λ same. apart (sym (named_by_number shape from is_from) ∙ ap (lock_named shape) (sym same) ∙ named_by_number shape to is_to) in
      let left_there : left_by (s.owner e) e (s.lists a) ≡ left =
      ap (λ (x : Bool). if x then without_free e (s.lists a) else without_row e (s.lists a)) lies.is
      ∙ ap (λ (l : Lists). if free then without_free e l else without_row e l) (fits.others from is_from list_from) ∙ left_is in
      let leaving : after_leaving shape (s.home e) (s.owner e) e s.lists ≡ put s.lists a left = ap (λ (h : Home). after_leaving shape h (s.owner e) e s.lists) lies.home ∙ ap (put s.lists a) left_there in
      let joining : joined_by to (s.owner e) e (put s.lists a left b) ≡ joined =
      ap (λ (l : Lists). joined_by to (s.owner e) e l) (put_else s.lists a left b numbers ∙ fits.others to is_to list_to)
      ∙ ap (λ (x : Bool). if x then with_free e (lists to) else with_row to e (lists to)) lies.is ∙ joined_is in
      let after_is : after_joining shape (homes.In to) (s.owner e) e (after_leaving shape (s.home e) (s.owner e) e s.lists) ≡ put (put s.lists a left) b joined =
      ap (λ (f : ℕ → Lists). after_joining shape (homes.In to) (s.owner e) e f) leaving ∙ ap (put (put s.lists a left) b) joining in
      record {
        placed = step_keeps_places shape s (steps.Rehome cpu e (homes.In to)) bounds can fits.placed;
        chains = λ c is_c x.
            let k : ℕ = lock_number shape (Bucket c) in
            let same : after_joining shape (homes.In to) (s.owner e) e (after_leaving shape (s.home e) (s.owner e) e s.lists) k ≡ s.lists k =
            ap (λ (f : ℕ → Lists). f k) after_is ∙ put_else (put s.lists a left) b joined k (number_apart shape (Bucket c) to is_c is_to (other_sort c to list_to)) ∙ put_else s.lists a left k (number_apart shape (Bucket c) from is_c is_from (other_sort c from list_from)) in
            omega (arith, ap (λ (l : Lists). times x l.first) same, fits.chains c is_c x);
        others = λ lock is list. ap (λ (f : ℕ → Lists). f (lock_number shape lock)) after_is
            ∙ put_list shape (put s.lists a left) (with_lists from left lists) to is_to (put_list shape s.lists lists from is_from fits.others left) joined lock is list;
      }

module _ {shape : Shape} (bounds : HasBounds shape) (lru : is_lru shape.kind ≡ true) (common : IsTrue shape.common) (cpu : ℕ) (local_is : IsTrue (is_lock shape (Local cpu))) {base out ins : ℕ → List ℕ} (lists : DomainId → Lists) where
  -- Pending elements are flushed to the global lists.
  pub follows_flush : (es : List ℕ) (l g : Lists) (s : State) (events : List Event) → Fits shape base out ins (both_lists cpu l g lists) s → ((x : ℕ) → times x es ≤ times x (rows l))
      → ((t : State) (l' g' : Lists) → l'.free ≡ l.free → ((x : ℕ) → times x (rows l') + times x es ≡ times x (rows l)) → g'.free ≡ g.free → ((x : ℕ) → times x (rows g') ≡ times x (rows g) + times x es)
      → Fits shape base out ins (both_lists cpu l' g' lists) t → Follows shape t events)
      → Follows shape s (map does (map (λ e. steps.Rehome cpu e (homes.In Global)) es) ++ events)
  unfolding ListsAllow
  follows_flush [] l g s events fits there next = next s l g refl (λ x. omega arith) refl (λ x. omega arith) fits
  follows_flush (e ∷ es) l g s events fits there next =
      let at : both_lists cpu l g lists (Local cpu) ≡ l = both_local cpu l g lists in
      let inside : IsIn e (rows l) = omega (arith, there e, times_cons_same e es) in
      let once : times e (rows l) ≤ 1 = subst (λ (k : Lists). times e (rows k) ≤ 1) at (few_rows bounds lru fits (Local cpu) local_is refl e) in
      let left : (x : ℕ) → times x (rows (without_row e l)) + times x (e ∷ []) ≡ times x (rows l) = λ x. row_left x e l once inside in
      follows_step bounds s (steps.Rehome cpu e (homes.In Global)) (map does (map (λ e. steps.Rehome cpu e (homes.In Global)) es) ++ events) fits.placed tt
      (λ can.
      let lies = row_here bounds lru fits (Local cpu) e local_is refl (subst (λ (k : Lists). IsIn e (rows k)) (sym at) inside) in
      let moved = moved_fits bounds lru fits cpu (Local cpu) Global e false (without_row e l) (with_row Global e g) (λ same. absurd cc) local_is common refl refl lies (ap (without_row e) at) refl can in
      follows_flush es (without_row e l) (with_row Global e g) (after shape s (steps.Rehome cpu e (homes.In Global))) events
      (fits_alike moved base out ins (both_lists cpu (without_row e l) (with_row Global e g) lists) (λ b. refl) (λ b. refl) (λ b. refl) (λ other _. global_local cpu l g (without_row e l) (with_row Global e g) lists other))
      (λ x. omega (arith, there x, left x, times_first x e es))
      (λ t l' g' l_free l_rows g_free g_rows fits'. next t l' g' l_free (λ x. omega (arith, l_rows x, left x, times_first x e es)) g_free
      (λ x. omega (arith, g_rows x, times_first x e es, row_more x e g)) fits'))
    where
      row_more : (x e : ℕ) (g : Lists) → times x (rows (with_row Global e g)) ≡ times x (e ∷ []) + times x (rows g)
      row_more x e g =
          by_test e x (λ b. times x (rows (with_row Global e g)) ≡ cond b 1 0 + times x (rows g))
          (λ same. subst (λ (y : ℕ). times y (rows (with_row Global e g)) ≡ 1 + times y (rows g)) same (omega (arith, rows_with_row_same Global e g refl)))
          (λ other. omega (arith, rows_with_row_other Global x e g (λ same. other (sym same))))

  -- Free elements come from the head of the global free list to that of the CPU's.
  pub follows_freeing : (es left : List ℕ) (l g : Lists) (s : State) (events : List Event) → Fits shape base out ins (both_lists cpu l g lists) s → g.free ≡ es ++ left
      → ((t : State) (l' g' : Lists) → l'.free ≡ stacked es l.free → rows l' ≡ rows l → g'.free ≡ left → rows g' ≡ rows g → Fits shape base out ins (both_lists cpu l' g' lists) t → Follows shape t events)
      → Follows shape s (map does (map (λ e. steps.Rehome cpu e (homes.In (Local cpu))) es) ++ events)
  unfolding ListsAllow
  follows_freeing [] left l g s events fits free next = next s l g refl refl free refl fits
  follows_freeing (e ∷ es) left l g s events fits free next =
      let at : both_lists cpu l g lists (Local cpu) ≡ l = both_local cpu l g lists in
      let inside : IsIn e g.free = subst (IsIn e) (sym free) (let here = times_cons_same e (es ++ left) in omega (arith, here)) in
      let removed : without e g.free ≡ es ++ left = ap (without e) free ∙ cond-true (eqb e e) (es ++ left) (e ∷ without e (es ++ left)) (eq-eqb e e refl) in
      follows_step bounds s (steps.Rehome cpu e (homes.In (Local cpu))) (map does (map (λ e. steps.Rehome cpu e (homes.In (Local cpu))) es) ++ events) fits.placed tt
      (λ can.
      let lies = free_here bounds lru fits Global e common refl inside in
      let moved = moved_fits bounds lru fits cpu Global (Local cpu) e true (without_free e g) (with_free e l) (λ same. absurd cc) common local_is refl refl lies refl (ap (with_free e) at) can in
      follows_freeing es left (with_free e l) (without_free e g) (after shape s (steps.Rehome cpu e (homes.In (Local cpu)))) events
      (fits_alike moved base out ins (both_lists cpu (with_free e l) (without_free e g) lists) (λ b. refl) (λ b. refl) (λ b. refl) (λ other _. local_global cpu l g (with_free e l) (without_free e g) lists other))
      removed next)

  -- Listed elements of the global lists are freed: they come to the head of the CPU's free list.
  pub follows_freed : (es : List ℕ) (l g : Lists) (s : State) (events : List Event) → Fits shape base out ins (both_lists cpu l g lists) s → ((x : ℕ) → times x es ≤ times x (rows g))
      → ((t : State) (l' g' : Lists) → l'.free ≡ stacked es l.free → ((x : ℕ) → times x (rows l') ≡ times x (rows l)) → g'.free ≡ g.free → ((x : ℕ) → times x (rows g') + times x es ≡ times x (rows g))
      → Fits shape base out ins (both_lists cpu l' g' lists) t → Follows shape t events)
      → Follows shape s (map does (flat_map (freed_steps cpu) es) ++ events)
  unfolding ListsAllow
  follows_freed [] l g s events fits there next = next s l g refl (λ x. refl) refl (λ x. omega arith) fits
  follows_freed (e ∷ es) l g s events fits there next =
      let at : both_lists cpu l g lists (Local cpu) ≡ l = both_local cpu l g lists in
      let inside : IsIn e (rows g) = omega (arith, there e, times_cons_same e es) in
      let once : times e (rows g) ≤ 1 = few_rows bounds lru fits Global common refl e in
      let left : (x : ℕ) → times x (rows (without_row e g)) + times x (e ∷ []) ≡ times x (rows g) = λ x. row_left x e g once inside in
      let more : List Event = map does (flat_map (freed_steps cpu) es) ++ events in
      follows_step bounds s (steps.Rehome cpu e (homes.In (Local cpu))) (does (steps.Settle cpu e (Local cpu)) ∷ more) fits.placed tt
      (λ can.
      let t : State = after shape s (steps.Rehome cpu e (homes.In (Local cpu))) in
      let lies = row_here bounds lru fits Global e common refl inside in
      let joined : Lists = with_row (Local cpu) e l in
      let moved = moved_fits bounds lru fits cpu Global (Local cpu) e false (without_row e g) joined (λ same. absurd cc) common local_is refl refl lies refl (ap (with_row (Local cpu) e) at) can in
      let midway : Fits shape base out ins (both_lists cpu joined (without_row e g) lists) t =
      fits_alike moved base out ins (both_lists cpu joined (without_row e g) lists) (λ b. refl) (λ b. refl) (λ b. refl) (λ other _. local_global cpu l g joined (without_row e g) lists other) in
      let midway_at : both_lists cpu joined (without_row e g) lists (Local cpu) ≡ joined = both_local cpu joined (without_row e g) lists in
      let back : Lists = with_free e (without_row e joined) in
      follows_step bounds t (steps.Settle cpu e (Local cpu)) more midway.placed tt
      (λ can'.
      let row_in : IsIn e (rows joined) = let same = rows_with_row_same (Local cpu) e l refl in omega (arith, same) in
      let row_once : times e (rows joined) ≤ 1 = subst (λ (k : Lists). times e (rows k) ≤ 1) midway_at (few_rows bounds lru midway (Local cpu) local_is refl e) in
      let settled = settle_fits midway bounds cpu e (Local cpu) back local_is refl (ap (λ (k : Lists). with_free e (without_row e k)) midway_at) can' in
      follows_freed es back (without_row e g) (after shape t (steps.Settle cpu e (Local cpu))) events
      (fits_alike settled base out ins (both_lists cpu back (without_row e g) lists) (λ b. refl) (λ b. refl) (λ b. refl) (λ other _. local_again cpu joined (without_row e g) back lists other))
      (λ x. omega (arith, there x, left x, times_first x e es))
      (λ u l' g' l_free l_rows g_free g_rows fits'. next u l' g' l_free (λ x. omega (arith, l_rows x, row_left x e joined row_once row_in, row_more x e l)) g_free (λ x. omega (arith, g_rows x, left x, times_first x e es)) fits')))
    where
      row_more : (x e : ℕ) (l : Lists) → times x (rows (with_row (Local cpu) e l)) ≡ times x (e ∷ []) + times x (rows l)
      row_more x e l =
          by_test e x (λ b. times x (rows (with_row (Local cpu) e l)) ≡ cond b 1 0 + times x (rows l))
          (λ same. subst (λ (y : ℕ). times y (rows (with_row (Local cpu) e l)) ≡ 1 + times y (rows l)) same (omega (arith, rows_with_row_same (Local cpu) e l refl)))
          (λ other. omega (arith, rows_with_row_other (Local cpu) x e l (λ same. other (sym same))))
