-- Turns of a CPU's own list set in a race: what words allow of them may be done.
use Rattle.std.proofs.Common.{◌≡◌, ℕ, suc, ◌+◌, ◌≤◌, Bool, true, false, ◌&&◌, cond, eqb, ltb, List, [], ◌∷◌, ◌++◌, map, Option, None, Some, refl, ap, ◌∙◌, sym, subst, arith, drop}
use Rattle.std.specs.Prelude.{IsTrue, slice_get}
use Rattle.std.proofs.lemmas.Bool.{cond-true, eq-eqb}
use Rattle.std.proofs.lemmas.List.{append_assoc, map-append}
use Rattle.map_types.specs.declared.attr.Shape.{Shape}
use Rattle.map_types.specs.declared.kind.DomainId.{DomainId}
use Rattle.map_types.specs.declared.kind.DomainId.TheVariants.{CpuLru}
use Rattle.map_types.specs.Kind.{is_lru}
use Rattle.map_types.specs.Shape.{HasBounds}
use Rattle.map_types.specs.ElementLists.{one, times, without, IsIn, IsHead}
use Rattle.map_types.proofs.RowLemmas.{times_append, by_test}
use Rattle.place_words.specs.declared.history.Part.TheVariants as parts
use Rattle.place_words.specs.declared.list_part.OwnPart.{OwnPart}
use Rattle.place_words.specs.declared.list_part.OwnPart.TheVariants as own
use Rattle.place_words.specs.Histories.{in_own}
use Rattle.place_words.specs.Locks.{is_lock, lock_number, lock_named}
use Rattle.place_words.specs.Moves.{elements_in}
use Rattle.place_words.specs.Openings.{is_free}
use Rattle.place_words.specs.RowMoves.{IsOnce}
use Rattle.place_words.specs.Sets.{ListSet, AllowsOnOwn, own_after, own_scans, rotated_set, shrunk_into_free}
use Rattle.place_words.specs.Takings.{freed_by}
use Rattle.place_words.proofs.KeepLaws.{keeps_elements}
use Rattle.place_words.proofs.LockLemmas.{named_by_number}
use Rattle.place_words.specs.declared.step.Lists.{Lists}
use Rattle.place_words.specs.declared.step.Step.TheVariants as steps
use Rattle.place_words.specs.Places.{has_row, lies_at}
use Rattle.place_words.specs.State.{State, rows, is_bucket, HasOnlyItsLists, HasCursorInside}
use Rattle.place_words.specs.Steps.{after, with_row, without_row, with_free, without_free}
use Rattle.place_words.proofs.RowLemmas.{rows_without_row_same, rows_without_row_other, rows_with_row_same, rows_with_row_other}
use Rattle.place_words.specs.Interleaving.{Event, does, set_lists, claims, own_steps}
use Rattle.core_runs.specs.Words.{ListsAllow, GivesLists}
use Rattle.core_runs.proofs.Ties.{with_lists, lists_here}
use Rattle.core_runs.proofs.Fits.{Fits, fits_alike, settle_fits, claim_fits, give_list_fits}
use Rattle.core_runs.proofs.Reduced.{Follows, follows_step, none}
use Rattle.core_runs.proofs.OwnTurns.{stacked}
use Rattle.core_runs.proofs.OwnNest.{put_twice, times_stacked, free_then, first_got, none_got, free_apart}
use Rattle.place_words.proofs.Cursors.{own_cursor}

one_at_most : (b : Bool) → one b ≤ 1
one_at_most true = omega arith
one_at_most false = omega arith

pub row_left : (x e : ℕ) (l : Lists) → times e (rows l) ≤ 1 → IsIn e (rows l) → times x (rows (without_row e l)) + times x (e ∷ []) ≡ times x (rows l)
row_left x e l once inside =
    by_test e x (λ b. times x (rows (without_row e l)) + cond b 1 0 ≡ times x (rows l))
    (λ same. subst (λ (y : ℕ). times y (rows (without_row e l)) + 1 ≡ times y (rows l)) same (omega (arith, rows_without_row_same e l once, once, inside)))
    (λ other. omega (arith, rows_without_row_other x e l (λ same. other (sym same))))

pub times_first : (x e : ℕ) (xs : List ℕ) → times x (e ∷ xs) ≡ times x (e ∷ []) + times x xs
times_first x e xs = by_test e x (λ b. cond b (suc (times x xs)) (times x xs) ≡ cond b 1 0 + times x xs) (λ same. omega arith) (λ other. omega arith)

module _ {shape : Shape} (bounds : HasBounds shape) (lru : IsTrue (is_lru shape.kind)) where
  -- what lies under a lock has a row once
  pub few_rows : {base out ins : ℕ → List ℕ} {lists : DomainId → Lists} {s : State} → Fits shape base out ins lists s → (lock : DomainId) → IsTrue (is_lock shape lock) → is_bucket lock ≡ false → (e : ℕ) → times e (rows (lists lock)) ≤ 1
  few_rows {s = s} fits lock is list e =
      let k : ℕ = lock_number shape lock in
      omega (arith, ap (λ (l : Lists). times e (rows l)) (fits.others lock is list), fits.placed.placed.rows k e, one_at_most (ltb e shape.elements && has_row (is_lru shape.kind) (lock_named shape k) (s.owner e) (lies_at k (fits.placed.place e))))

  -- What is settled: it comes to the free list in turn, and leaves the listed ones.
  pub follows_settles : {base out ins : ℕ → List ℕ} (lists : DomainId → Lists) (cpu : ℕ) (lock : DomainId) (es : List ℕ) (l : Lists) (s : State) (events : List Event) → IsTrue (is_lock shape lock) → is_bucket lock ≡ false
      → Fits shape base out ins (with_lists lock l lists) s
      → ((t : State) (l' : Lists) → l'.free ≡ stacked es l.free → ((x : ℕ) → times x (rows l') + times x es ≡ times x (rows l)) → Fits shape base out ins (with_lists lock l' lists) t → Follows shape t events)
      → Follows shape s (map does (map (λ e. steps.Settle cpu e lock) es) ++ events)
  unfolding ListsAllow
  follows_settles lists cpu lock [] l s events is list fits next = next s l refl (λ x. omega arith) fits
  follows_settles {base = base} {out = out} {ins = ins} lists cpu lock (e ∷ es) l s events is list fits next =
      let here : with_lists lock l lists lock ≡ l = lists_here lock l lists in
      let new : Lists = with_free e (without_row e l) in
      let once : times e (rows l) ≤ 1 = subst (λ (k : Lists). times e (rows k) ≤ 1) here (few_rows fits lock is list e) in
      follows_step bounds s (steps.Settle cpu e lock) (map does (map (λ e. steps.Settle cpu e lock) es) ++ events) fits.placed tt
      (λ can.
      let inside : IsIn e (rows l) = subst (λ (k : Lists). IsIn e (rows k)) (fits.others lock is list ∙ here) (can.listed lru) in
      follows_settles lists cpu lock es new (after shape s (steps.Settle cpu e lock)) events is list
      (fits_alike (settle_fits fits bounds cpu e lock new is list (ap (λ (k : Lists). with_free e (without_row e k)) here) can) base out ins (with_lists lock new lists)
      (λ b. refl) (λ b. refl) (λ b. refl) (λ other _. put_twice lock new l lists other))
      (λ t l' free_is row_is fits'. next t l' free_is (λ x. omega (arith, row_is x, row_left x e l once inside, times_first x e es)) fits'))

  -- lists that are given back with the same free list and as many elements
  pub gives_total : {base out ins : ℕ → List ℕ} (lists : DomainId → Lists) {s : State} (l new : Lists) (lock : DomainId) → IsTrue (is_lock shape lock) → is_bucket lock ≡ false → Fits shape base out ins (with_lists lock l lists) s → HasOnlyItsLists lock new → new.free ≡ l.free
      → ((x : ℕ) → times x (rows new) ≡ times x (rows l)) → HasCursorInside new → GivesLists shape s lock new
  gives_total lists l new lock is list fits fit free row cursor =
      let at = fits.others lock is list ∙ lists_here lock l lists in
      record {
        fit = fit;
        same_free = λ e. ap (times e) free ∙ ap (λ (k : Lists). times e k.free) (sym at);
        same_rows = λ e. row e ∙ ap (λ (k : Lists). times e (rows k)) (sym at);
        cursor = cursor;
      }

  set_once : {base out ins : ℕ → List ℕ} {lists : DomainId → Lists} {s : State} → Fits shape base out ins lists s → (c : ℕ) → IsTrue (is_lock shape (CpuLru c)) → (set : ListSet) → lists (CpuLru c) ≡ set_lists set → IsOnce (in_own set)
  set_once {s = s} fits c is set lies e =
      let k : ℕ = lock_number shape (CpuLru c) in
      let at = fits.others (CpuLru c) is refl ∙ lies in
      let told : times e (rows (s.lists k)) ≡ one (ltb e shape.elements && has_row (is_lru shape.kind) (CpuLru c) (s.owner e) (lies_at k (fits.placed.place e))) =
      subst (λ (lock : DomainId). times e (rows (s.lists k)) ≡ one (ltb e shape.elements && has_row (is_lru shape.kind) lock (s.owner e) (lies_at k (fits.placed.place e)))) (named_by_number shape (CpuLru c) is) (fits.placed.placed.rows k e) in
      omega (
        arith,
        times_append e set.free (rows (set_lists set)),
        ap (λ (l : Lists). times e l.free) at,
        ap (λ (l : Lists). times e (rows l)) at,
        told,
        free_apart (ltb e shape.elements) (is_free (s.owner e)) (lies_at k (fits.placed.place e)) (is_lru shape.kind),
        fits.placed.placed.free k e,
      )

  pub cursor_there : {base out ins : ℕ → List ℕ} {lists : DomainId → Lists} {s : State} → Fits shape base out ins lists s → (lock : DomainId) (l : Lists) → IsTrue (is_lock shape lock) → is_bucket lock ≡ false → lists lock ≡ l → HasCursorInside l
  cursor_there fits lock l is list lies = subst HasCursorInside (fits.others lock is list ∙ lies) (fits.placed.placed.cursors (lock_number shape lock))

  -- A turn of an own set
  pub own_turn : {base owed : ℕ → List ℕ} {lists : DomainId → Lists} (cpu c : ℕ) (part : OwnPart) (set : ListSet) (s : State) (more : List Event) → IsTrue (is_lock shape (CpuLru c))
      → Fits shape base owed none lists s → lists (CpuLru c) ≡ set_lists set → AllowsOnOwn part set
      → ((t : State) → Fits shape base owed none (with_lists (CpuLru c) (set_lists (own_after part set)) lists) t → Follows shape t more)
      → Follows shape s (map does (own_steps cpu (CpuLru c) part) ++ does (steps.Give cpu (CpuLru c) (set_lists (own_after part set))) ∷ more)
  unfolding ListsAllow own_after
  own_turn {base = base} {owed = owed} {lists = lists} cpu c (own.Turn hash active inactive shrink got) set s more is fits lies allowed next =
      let lock : DomainId = CpuLru c in
      let part : OwnPart = own.Turn hash active inactive shrink got in
      let es : List ℕ = freed_by shrink in
      let new : Lists = set_lists (own_after part set) in
      let l : Lists = set_lists set in
      let kept : (x : ℕ) → times x (elements_in (in_own (own_after part set))) + 0 ≡ times x (elements_in (in_own set)) + 0 = λ x. keeps_elements shape cpu (parts.Own part) (in_own set) allowed (set_once fits c is set lies) x in
      let cursor : HasCursorInside new = own_cursor part set (cursor_there fits lock l is refl lies) in
      let start : Fits shape base owed none (with_lists lock l lists) s = fits_alike fits base owed none (with_lists lock l lists) (λ b. refl) (λ b. refl) (λ b. refl) (λ other _. sym (Rattle.core_runs.proofs.OwnNest.put_back lock l lists lies other)) in
      subst (Follows shape s) (sym (ap (λ (xs : List Event). xs ++ does (steps.Give cpu lock new) ∷ more) (map-append does (map (λ e. steps.Settle cpu e lock) es) (claims cpu lock got)) ∙ append_assoc (map does (map (λ e. steps.Settle cpu e lock) es)) (map does (claims cpu lock got)) (does (steps.Give cpu lock new) ∷ more)))
      (follows_settles lists cpu lock es l s (map does (claims cpu lock got) ++ does (steps.Give cpu lock new) ∷ more) is refl start
      (λ t l' free_is row_is fits'. claimed got t l' free_is row_is fits' allowed (λ x. omega (arith, kept x, times_append x set.free (rows l), times_append x (own_after part set).free (rows new), times_stacked x es set.free)) cursor))
    where
      lock : DomainId
      lock = CpuLru c

      es : List ℕ
      es = freed_by shrink

      all : List ℕ
      all = stacked es set.free

      claimed : (g : Option ℕ) (t : State) (l' : Lists) → l'.free ≡ all → ((x : ℕ) → times x (rows l') + times x es ≡ times x (rows (set_lists set))) → Fits shape base owed none (with_lists lock l' lists) t
          → AllowsOnOwn (own.Turn hash active inactive shrink g) set
          → ((x : ℕ) → times x (own_after (own.Turn hash active inactive shrink got) set).free + times x (rows (set_lists (own_after (own.Turn hash active inactive shrink got) set))) + times x es ≡ times x all + times x (rows (set_lists set)))
          → HasCursorInside (set_lists (own_after (own.Turn hash active inactive shrink got) set))
          → Follows shape t (map does (claims cpu lock g) ++ does (steps.Give cpu lock (set_lists (own_after (own.Turn hash active inactive shrink got) set))) ∷ more)
      claimed None t l' free_is row_is fits' allow total cursor =
          let new : Lists = set_lists (own_after (own.Turn hash active inactive shrink got) set) in
          let then_is : (shrunk_into_free shrink (rotated_set own_scans active inactive set)).free ≡ all = free_then shrink active inactive set in
          let empty : all ≡ [] = none_got all (sym (ap (λ (xs : List ℕ). slice_get xs 0) then_is) ∙ sym allow.2) in
          let new_free : new.free ≡ l'.free = ap (drop 1) (then_is ∙ empty) ∙ sym (free_is ∙ empty) in
          follows_step bounds t (steps.Give cpu lock new) more fits'.placed
          (gives_total lists l' new lock is refl fits' tt new_free (λ x. omega (arith, total x, row_is x, ap (times x) new_free, ap (times x) free_is)) cursor)
          (λ can. next (after shape t (steps.Give cpu lock new)) (fits_alike (give_list_fits fits' bounds cpu lock new is refl can) base owed none (with_lists lock new lists) (λ b. refl) (λ b. refl) (λ b. refl) (λ other _. put_twice lock new l' lists other)))
      claimed (Some g) t l' free_is row_is fits' allow total cursor =
          let new : Lists = set_lists (own_after (own.Turn hash active inactive shrink got) set) in
          let then_is : (shrunk_into_free shrink (rotated_set own_scans active inactive set)).free ≡ all = free_then shrink active inactive set in
          let first : all ≡ g ∷ drop 1 all = first_got all g (sym (ap (λ (xs : List ℕ). slice_get xs 0) then_is) ∙ sym allow.2) in
          let l2 : Lists = with_row lock g (without_free g l') in
          let left_free : l2.free ≡ drop 1 all = ap (without g) (free_is ∙ first) ∙ cond-true (eqb g g) (drop 1 all) (g ∷ without g (drop 1 all)) (eq-eqb g g refl) in
          let new_free : new.free ≡ l2.free = ap (drop 1) then_is ∙ sym left_free in
          let here : with_lists lock l' lists lock ≡ l' = lists_here lock l' lists in
          let row_more : (x : ℕ) → times x (rows l2) ≡ times x (g ∷ []) + times x (rows l') = λ x.
          by_test g x (λ b. times x (rows l2) ≡ cond b 1 0 + times x (rows l'))
          (λ same. subst (λ (y : ℕ). times y (rows l2) ≡ 1 + times y (rows l')) same (omega (arith, rows_with_row_same lock g (without_free g l') refl)))
          (λ other. omega (arith, rows_with_row_other lock x g (without_free g l') (λ same. other (sym same)))) in
          follows_step bounds t (steps.Claim cpu g lock) (does (steps.Give cpu lock new) ∷ more) fits'.placed
          (subst (λ (k : Lists). IsHead g k.free) (sym (fits'.others lock is refl ∙ here)) (subst (IsHead g) (sym (free_is ∙ first)) refl))
          (λ can.
          let u : State = after shape t (steps.Claim cpu g lock) in
          let fits2 = claim_fits fits' bounds cpu g lock l2 is refl (ap (λ (k : Lists). with_row lock g (without_free g k)) here) can in
          let fits3 : Fits shape base owed none (with_lists lock l2 lists) u = fits_alike fits2 base owed none (with_lists lock l2 lists) (λ b. refl) (λ b. refl) (λ b. refl) (λ other _. put_twice lock l2 l' lists other) in
          follows_step bounds u (steps.Give cpu lock new) more fits3.placed
          (gives_total lists l2 new lock is refl fits3 tt new_free (λ x. omega (arith, total x, row_is x, row_more x, ap (times x) new_free, ap (times x) left_free, ap (times x) first, times_first x g (drop 1 all))) cursor)
          (λ can'. next (after shape u (steps.Give cpu lock new)) (fits_alike (give_list_fits fits3 bounds cpu lock new is refl can') base owed none (with_lists lock new lists) (λ b. refl) (λ b. refl) (λ b. refl) (λ other _. put_twice lock new l2 lists other))))
  own_turn {base = base} {owed = owed} {lists = lists} cpu c (own.Push e) set s more is fits lies allowed next =
      let lock : DomainId = CpuLru c in
      let part : OwnPart = own.Push e in
      let new : Lists = set_lists (own_after part set) in
      let l : Lists = set_lists set in
      let l' : Lists = with_free e (without_row e l) in
      let kept : (x : ℕ) → times x (elements_in (in_own (own_after part set))) + 0 ≡ times x (elements_in (in_own set)) + 0 = λ x. keeps_elements shape cpu (parts.Own part) (in_own set) allowed (set_once fits c is set lies) x in
      let once : times e (rows l) ≤ 1 = subst (λ (k : Lists). times e (rows k) ≤ 1) lies (few_rows fits lock is refl e) in
      follows_step bounds s (steps.Settle cpu e lock) (does (steps.Give cpu lock new) ∷ more) fits.placed tt
      (λ can.
      let t : State = after shape s (steps.Settle cpu e lock) in
      let inside : IsIn e (rows l) = subst (λ (k : Lists). IsIn e (rows k)) (fits.others lock is refl ∙ lies) (can.listed lru) in
      let fits' = settle_fits fits bounds cpu e lock l' is refl (ap (λ (k : Lists). with_free e (without_row e k)) lies) can in
      follows_step bounds t (steps.Give cpu lock new) more fits'.placed
      (gives_total lists l' new lock is refl fits' tt (pushed_free set) (λ x. omega (arith, kept x, times_append x set.free (rows l), times_append x (own_after part set).free (rows new), row_left x e l once inside, times_first x e set.free, ap (times x) (pushed_free set)))
      (own_cursor part set (cursor_there fits lock l is refl lies)))
      (λ can'. next (after shape t (steps.Give cpu lock new)) (fits_alike (give_list_fits fits' bounds cpu lock new is refl can') base owed none (with_lists lock new lists) (λ b. refl) (λ b. refl) (λ b. refl) (λ other _. put_twice lock new l' lists other))))
    where
      pushed_free : (set : ListSet) → (own_after (own.Push e) set).free ≡ e ∷ set.free
      pushed_free set = refl
