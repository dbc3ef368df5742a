-- Single turns of list locks are runs of the core: an element is popped from the CPU's lists, is stolen and brought home, or is
-- pushed free.
use Rattle.std.proofs.Common.{◌≡◌, ◌≢◌, ℕ, suc, ◌+◌, ◌<◌, ◌≤◌, true, false, not, cond, eqb, List, [], ◌∷◌, ◌++◌, map, drop, None, refl, ap, ◌∙◌, sym, subst, inl, inr, ⊎_elim, arith}
use Rattle.std.specs.Prelude.{IsTrue, IsFalse}
use Rattle.std.proofs.lemmas.Bool.{cases_eq}
use Rattle.map_types.specs.declared.attr.Shape.{Shape}
use Rattle.map_types.specs.declared.kind.DomainId.{DomainId}
use Rattle.map_types.specs.declared.kind.DomainId.TheVariants.{Local, Global, CpuLru}
use Rattle.map_types.specs.declared.row.Row.{Row}
use Rattle.map_types.specs.Shape.{HasBounds}
use Rattle.map_types.specs.Listed.{elements_of, without_those}
use Rattle.map_types.specs.ElementLists.{times, IsIn, IsHead, without}
use Rattle.map_types.proofs.RowLemmas.{by_test, times_append}
use Rattle.place_words.specs.declared.history.Part.TheVariants as parts
use Rattle.place_words.specs.declared.list_part.GlobalPart.TheVariants as global
use Rattle.place_words.specs.declared.list_part.LocalPart.TheVariants as local
use Rattle.place_words.specs.declared.list_part.OwnPart.TheVariants as own
use Rattle.place_words.specs.declared.owner.Owner.TheVariants as owners
use Rattle.place_words.specs.Histories.{Content, in_locals, in_global, in_own, content_after}
use Rattle.place_words.specs.Locals.{LocalLists, local_after}
use Rattle.place_words.specs.Locks.{is_lock, lock_number}
use Rattle.place_words.specs.Moves.{elements_in}
use Rattle.place_words.specs.Sets.{ListSet, own_after, is_listed}
use Rattle.place_words.specs.Globals.{global_after}
use Rattle.place_words.specs.Turns.{Turn, on_lock, after_turn}
use Rattle.place_words.proofs.KeepLaws.{keeps_elements}
use Rattle.place_words.proofs.LockLemmas.{same_lock}
use Rattle.place_words.proofs.Settled.{turned_here}
use Rattle.place_words.specs.declared.step.Lists.{Lists}
use Rattle.place_words.specs.declared.step.Step.TheVariants as steps
use Rattle.place_words.specs.State.{State, rows, is_bucket, HasCursorInside, HasOnlyItsLists}
use Rattle.place_words.specs.Steps.{with_row, without_row, with_free, without_free}
use Rattle.place_words.proofs.ElementLemmas.{times_cons_same, times_cons_other}
use Rattle.place_words.proofs.RowLemmas.{rows_without_row_other, rows_without_row_same}
use Rattle.place_words.specs.Interleaving.{Drawn, Event, does, is_inner, set_lists, lists_in, takes, interleaved, AreEnabled}
use Rattle.place_words.proofs.Cursors.{own_cursor, global_cursor}
use Rattle.core_runs.proofs.Evictions.{Hands}
use Rattle.core_runs.proofs.Nests.{from_less, drawn, turn_alone}
use Rattle.core_runs.proofs.OwnNest.{own_once}
use Rattle.core_runs.proofs.PlainGoes.{Goes}
use Rattle.core_runs.proofs.PlainRuns.{core_lists, tied_alike, then_alike, without_head}
use Rattle.core_runs.proofs.RefillNest.{global_once}
use Rattle.core_runs.proofs.SharedMoves.{local_lists, local_lock, rows_few}
use Rattle.core_runs.proofs.Tied.{IsTied, with_lists, held_first, lists_here, lists_else, free_real, under, take_tied, claim_tied, settle_tied, give_tied, give_same}

-- a row that stands once is out
pub without_rows : (e : ℕ) (rs : List Row) → times e (elements_of rs) ≤ 1 → without e (elements_of rs) ≡ elements_of (without_those (λ x. eqb x e) rs)
without_rows e [] once = refl
without_rows e (row ∷ rs) once =
    by_test row.element e (λ b. cond b (suc (times e (elements_of rs))) (times e (elements_of rs)) ≤ 1 → cond b (elements_of rs) (row.element ∷ without e (elements_of rs)) ≡ elements_of (cond (not b) (row ∷ without_those (λ x. eqb x e) rs) (without_those (λ x. eqb x e) rs)))
    (λ same few. sym (none_out rs (omega (arith, few))))
    (λ other few. ap (λ (l : List ℕ). row.element ∷ l) (without_rows e rs few)) once
  where
    none_out : (rs : List Row) → times e (elements_of rs) ≡ 0 → elements_of (without_those (λ x. eqb x e) rs) ≡ elements_of rs
    none_out [] none = refl
    none_out (row ∷ rs) none =
        by_test row.element e (λ b. cond b (suc (times e (elements_of rs))) (times e (elements_of rs)) ≡ 0 → elements_of (cond (not b) (row ∷ without_those (λ x. eqb x e) rs) (without_those (λ x. eqb x e) rs)) ≡ row.element ∷ elements_of rs)
        (λ same some. absurd (omega (arith, some)))
        (λ other rest. ap (λ (l : List ℕ). row.element ∷ l) (none_out rs rest)) none

-- one more in the hand, and one less
pub in_hand_more : (cpu e : ℕ) (hand : List ℕ) (Known : ℕ → ℕ → Type 0) (c x : ℕ) → ((c x : ℕ) → Hands cpu hand Known c x → x ≢ e) → Hands cpu (e ∷ hand) Known c x → (x ≡ e → c ≡ cpu) × (x ≢ e → Hands cpu hand Known c x)
in_hand_more cpu e hand Known c x differ held =
    ⊎_elim
    (λ (mine : IsIn x (e ∷ hand) × (c ≡ cpu)). ((λ same. mine.1), (λ other. inl (subst (λ (k : ℕ). 0 < k) (times_cons_other x e hand other) mine.0, mine.1))))
    (λ (known : Known c x). ((λ same. absurd (differ c x (inr known) same)), (λ other. inr known)))
    held

-- An element's row is settled: the lock is given back with the element free.
pub goes_settling : {shape : Shape} (bounds : HasBounds shape) {cpu : ℕ} (within : cpu < shape.cpus) → (contents : DomainId → Content) (Known : ℕ → ℕ → Type 0) (e : ℕ) (hand : List ℕ) (turn : Turn) → is_inner turn.part ≡ false → IsTrue (is_lock shape turn.lock) → IsFalse (is_bucket turn.lock)
    → Rattle.place_words.specs.Interleaving.part_steps shape cpu turn.lock None turn.part ≡ steps.Settle cpu e turn.lock ∷ [] → Rattle.place_words.specs.Interleaving.seen_by turn.part ≡ []
    → IsIn e (rows (lists_in (contents turn.lock))) → times e hand ≡ 0 → ((c x : ℕ) → Known c x → x ≢ e)
    → ((s : State) → IsTied shape cpu [] (core_lists contents) (Hands cpu (e ∷ hand) Known) s → HasOnlyItsLists turn.lock (lists_in (after_turn shape cpu contents turn turn.lock))
    × ((x : ℕ) → times x (lists_in (after_turn shape cpu contents turn turn.lock)).free ≡ times x (e ∷ (lists_in (contents turn.lock)).free))
    × ((x : ℕ) → times x (rows (lists_in (after_turn shape cpu contents turn turn.lock))) ≡ times x (rows (without_row e (lists_in (contents turn.lock)))))
    × HasCursorInside (lists_in (after_turn shape cpu contents turn turn.lock)))
    → Goes shape cpu contents (Hands cpu (e ∷ hand) Known) (turn ∷ []) (Hands cpu hand Known)
unfolding AreEnabled
goes_settling {shape = shape} bounds {cpu = cpu} within contents Known e hand turn outer is list one_step blind inside gone away after = record {
  run = λ s n call later tied from more.
      let now : DomainId → Content = after_turn shape cpu contents turn in
      let lock : DomainId = turn.lock in
      let x : Drawn = drawn n cpu call turn in
      let new : Lists = lists_in (now lock) in
      let fits = after s tied in
      let first : IsIn e (e ∷ hand) = let here = times_cons_same e hand in omega (arith, here) in
      let took = take_tied bounds within tied lock is tt in
      let then : Lists = with_free e (without_row e (lists_in (contents lock))) in
      let settled = settle_tied bounds within took.tied lock e then (Hands cpu hand Known) is list (held_first cpu [] lock) (inl (first, refl)) (λ lru. inside) refl
      (λ c y held. ⊎_elim
      (λ (mine : IsIn y hand × (c ≡ cpu)). (inl (by_test e y (λ b. 0 < cond b (suc (times y hand)) (times y hand)) (λ same. omega arith) (λ other. mine.0), mine.1), λ same. let some : 0 < times e hand = subst (λ (z : ℕ). 0 < times z hand) same mine.0 in omega (arith, gone, some)))
      (λ (known : Known c y). (inr known, away c y known))
      held) in
      let here = lists_here lock then (core_lists contents) in
      let gave = give_tied bounds within lock settled.tied new is tt fits.0
      (λ y. fits.1 y ∙ ap (λ (l : Lists). times y l.free) (sym here))
      (λ y. fits.2 y ∙ ap (λ (l : Lists). times y (rows l)) (sym here))
      fits.3 in
      let steps_are : interleaved shape contents [] (x ∷ later) ≡ takes x ∷ does (steps.Settle cpu e lock) ∷ does (steps.Give cpu lock new) ∷ interleaved shape now [] later =
      turn_alone shape contents x later outer (from_less (suc n) (n + 1) later (omega arith) from)
      ∙ ap (λ (l : List Rattle.place_words.specs.declared.step.Step.Step). takes x ∷ map does l ++ (Rattle.place_words.specs.Interleaving.seen_by turn.part ++ does (steps.Give cpu lock new) ∷ interleaved shape now [] later)) one_step
      ∙ ap (λ (l : List Event). takes x ∷ does (steps.Settle cpu e lock) ∷ (l ++ does (steps.Give cpu lock new) ∷ interleaved shape now [] later)) blind in
      subst (AreEnabled shape s) (sym steps_are) (
        took.enabled,
        (
          settled.enabled,
          (
            gave.enabled,
            more _
                (tied_alike (then_alike shape cpu contents turn (with_lists lock then (core_lists contents)) (λ other apart. lists_else lock other then (core_lists contents) apart)) gave.tied),
          ),
        ),
      );
}

-- A pending element is pushed free on its local lists.
pub goes_push_done : {shape : Shape} (bounds : HasBounds shape) (common : IsTrue shape.common) {cpu : ℕ} (within : cpu < shape.cpus) → (contents : DomainId → Content) (Known : ℕ → ℕ → Type 0) (e : ℕ) (hand : List ℕ) (on : ℕ) (lists : LocalLists) → on < shape.cpus
    → contents (Local on) ≡ in_locals lists → IsIn e (elements_of lists.pending) → times e hand ≡ 0 → ((c x : ℕ) → Known c x → x ≢ e)
    → Goes shape cpu contents (Hands cpu (e ∷ hand) Known) (on_lock (Local on) (parts.Local (local.Push e true)) ∷ []) (Hands cpu hand Known)
unfolding local_after
goes_push_done {shape = shape} bounds common {cpu = cpu} within contents Known e hand on lists there lies inside gone away =
    let turn : Turn = on_lock (Local on) (parts.Local (local.Push e true)) in
    let is : is_lock shape (Local on) ≡ true = local_lock shape on common there in
    let was : lists_in (contents (Local on)) ≡ local_lists lists.free (elements_of lists.pending) = ap lists_in lies in
    let now : lists_in (after_turn shape cpu contents turn (Local on)) ≡ local_lists (e ∷ lists.free) (elements_of (without_those (λ x. eqb x e) lists.pending)) =
    ap lists_in (turned_here shape cpu contents turn (Local on) (same_lock (Local on)) ∙ ap (content_after shape cpu turn.part) lies) in
    goes_settling bounds within contents Known e hand turn refl is refl refl refl
    (subst (λ (l : Lists). IsIn e (rows l)) (sym was) (let sum = times_append e (elements_of lists.pending) [] in omega (arith, sum, inside))) gone away
    (λ s tied.
    let once : (x : ℕ) → times x (elements_of lists.pending) ≤ 1 = λ x. let few = rows_few bounds within tied (Local on) is x in let same : times x (rows (lists_in (contents (Local on)))) ≡ times x (elements_of lists.pending ++ []) = ap (λ (l : Lists). times x (rows l)) was in let sum = times_append x (elements_of lists.pending) [] in omega (arith, few, same, sum) in
    let out = without_rows e lists.pending (once e) in (
      subst (HasOnlyItsLists (Local on)) (sym now) refl,
      (λ x. ap (λ (l : Lists). times x l.free) now ∙ ap (λ (l : Lists). times x (e ∷ l.free)) (sym was)),
      (λ x. ap (λ (l : Lists). times x (rows l)) now ∙ ap (λ (xs : List ℕ). times x (xs ++ [])) (sym out) ∙ ap (λ (l : Lists). times x (rows (without_row e l))) (sym was)),
      subst HasCursorInside (sym now) tt,
    ))

rows_settled : (x e : ℕ) (l : Lists) → ((y : ℕ) → times y (rows l) ≤ 1) → IsIn e (rows l) → (new_total old_total new_free new_rows : ℕ) → new_total + 0 ≡ old_total + 0 → old_total ≡ times x l.free + times x (rows l) → new_total ≡ new_free + new_rows → new_free ≡ times x (e ∷ l.free)
    → new_rows ≡ times x (rows (without_row e l))
rows_settled x e l once inside new_total old_total new_free new_rows kept old new free =
    ⊎_elim
    (λ (same : x ≡ e).
    let more : times x (e ∷ l.free) ≡ suc (times x l.free) = subst (λ (y : ℕ). times x (y ∷ l.free) ≡ suc (times x l.free)) same (times_cons_same x l.free) in
    let none : times x (rows (without_row e l)) ≡ 0 = subst (λ (y : ℕ). times y (rows (without_row e l)) ≡ 0) (sym same) (rows_without_row_same e l (once e)) in
    let one_there : 0 < times x (rows l) = subst (λ (y : ℕ). 0 < times y (rows l)) (sym same) inside in
    let few = once x in omega (arith, kept, old, new, free, more, none, one_there, few))
    (λ (other : x ≡ e → ⊥).
    let stays = times_cons_other x e l.free other in
    let rest = rows_without_row_other x e l other in
    omega (arith, kept, old, new, free, stays, rest))
    (cases_eq x e)

-- A listed element is pushed free on the global lists.
pub goes_push_global : {shape : Shape} (bounds : HasBounds shape) (common : IsTrue shape.common) {cpu : ℕ} (within : cpu < shape.cpus) → (contents : DomainId → Content) (Known : ℕ → ℕ → Type 0) (e : ℕ) (hand : List ℕ) (set : ListSet)
    → contents Global ≡ in_global set → IsTrue (is_listed e set.lists) → IsIn e (rows (set_lists set)) → times e hand ≡ 0 → ((c x : ℕ) → Known c x → x ≢ e)
    → Goes shape cpu contents (Hands cpu (e ∷ hand) Known) (on_lock Global (parts.Global (global.Push e)) ∷ []) (Hands cpu hand Known)
unfolding global_after
goes_push_global {shape = shape} bounds common {cpu = cpu} within contents Known e hand set lies listed inside gone away =
    let turn : Turn = on_lock Global (parts.Global (global.Push e)) in
    let was : lists_in (contents Global) ≡ set_lists set = ap lists_in lies in
    let after : ListSet = global_after (global.Push e) set in
    let now : lists_in (after_turn shape cpu contents turn Global) ≡ set_lists after = ap lists_in (turned_here shape cpu contents turn Global refl ∙ ap (content_after shape cpu turn.part) lies) in
    goes_settling bounds within contents Known e hand turn refl common refl refl refl (subst (λ (l : Lists). IsIn e (rows l)) (sym was) inside) gone away
    (λ s tied.
    let once : (x : ℕ) → times x (rows (set_lists set)) ≤ 1 = λ x. subst (λ (l : Lists). times x (rows l) ≤ 1) was (rows_few bounds within tied Global common x) in (
      tt,
      (λ x. ap (λ (l : Lists). times x l.free) now ∙ ap (λ (l : Lists). times x (e ∷ l.free)) (sym was)),
      (λ x. ap (λ (l : Lists). times x (rows l)) now
          ∙ rows_settled x e (set_lists set) once inside (times x (elements_in (in_global after))) (times x (elements_in (in_global set))) (times x after.free) (times x (rows (set_lists after)))
          (keeps_elements shape cpu turn.part (in_global set) listed (global_once bounds within tied common set was) x) (times_append x set.free (rows (set_lists set))) (times_append x after.free (rows (set_lists after))) refl
          ∙ ap (λ (l : Lists). times x (rows (without_row e l))) (sym was)),
      subst HasCursorInside (sym now) (global_cursor (global.Push e) set (subst HasCursorInside was (subst HasCursorInside (under bounds within tied Global common) (tied.placed.placed.cursors (lock_number shape Global))))),
    ))

-- The head of the CPU's free list is popped: it is pending then, and in the CPU's hand.
pub goes_pop : {shape : Shape} (bounds : HasBounds shape) (common : IsTrue shape.common) {cpu : ℕ} (within : cpu < shape.cpus) → (contents : DomainId → Content) (Known : ℕ → ℕ → Type 0) (e hash : ℕ) (hand : List ℕ) (lists : LocalLists)
    → contents (Local cpu) ≡ in_locals lists → IsHead e lists.free
    → Goes shape cpu contents (Hands cpu hand Known) (on_lock (Local cpu) (parts.Local (local.Pop hash e)) ∷ []) (Hands cpu (e ∷ hand) Known)
unfolding AreEnabled local_after
goes_pop {shape = shape} bounds common {cpu = cpu} within contents Known e hash hand lists lies head = record {
  run = λ s n call later tied from more.
      let lock : DomainId = Local cpu in
      let turn : Turn = on_lock lock (parts.Local (local.Pop hash e)) in
      let now : DomainId → Content = after_turn shape cpu contents turn in
      let is : is_lock shape lock ≡ true = local_lock shape cpu common within in
      let rest : List ℕ = drop 1 lists.free in
      let first : lists.free ≡ e ∷ rest = go lists.free head in
      let was : lists_in (contents lock) ≡ local_lists (e ∷ rest) (elements_of lists.pending) = ap lists_in lies ∙ ap (λ (xs : List ℕ). local_lists xs (elements_of lists.pending)) first in
      let took = take_tied bounds within tied lock is tt in
      let new : Lists = local_lists rest (e ∷ elements_of lists.pending) in
      let free : s.owner e ≡ owners.Free = (free_real bounds within took.tied lock e is (subst (λ (l : Lists). IsIn e l.free) (sym was) (let here = times_cons_same e rest in omega (arith, here)))).1 in
      let claimed = claim_tied bounds within took.tied lock e rest new (Hands cpu (e ∷ hand) Known) is (held_first cpu [] lock) (ap (λ (l : Lists). l.free) was)
      (ap (λ (l : Lists). with_row lock e (without_free e l)) was ∙ ap (λ (xs : List ℕ). local_lists xs (e ∷ elements_of lists.pending)) (without_head e rest))
      (λ c x held. in_hand_more cpu e hand Known c x (λ d y known same. (let owner : owners.Free ≡ owners.Hand d = sym free ∙ ap s.owner (sym same) ∙ (tied.known d y known).1 in absurd cc)) held) in
      let after : new ≡ lists_in (now lock) = sym (ap lists_in (turned_here shape cpu contents turn lock (same_lock lock) ∙ ap (content_after shape cpu turn.part) lies)) in
      let gave = give_same bounds within lock claimed.tied (lists_in (now lock)) is tt (lists_here lock new (core_lists contents) ∙ after) in
      subst (AreEnabled shape s) (sym (turn_alone shape contents (drawn n cpu call turn) later refl (from_less (suc n) (n + 1) later (omega arith) from))) (
        took.enabled,
        (
          claimed.enabled,
          (
            gave.enabled,
            more _
                (tied_alike (then_alike shape cpu contents turn (with_lists lock new (core_lists contents)) (λ other apart. lists_else lock other new (core_lists contents) apart)) gave.tied),
          ),
        ),
      );
}
  where
    go : (xs : List ℕ) → IsHead e xs → xs ≡ e ∷ drop 1 xs
    go [] is = absurd is
    go (x ∷ xs) is = ap (λ (y : ℕ). y ∷ xs) is

-- A listed element is pushed free on the set in which it lives.
pub goes_push_own : {shape : Shape} (bounds : HasBounds shape) {cpu : ℕ} (within : cpu < shape.cpus) → (contents : DomainId → Content) (Known : ℕ → ℕ → Type 0) (e : ℕ) (hand : List ℕ) (on : ℕ) (set : ListSet) → IsTrue (is_lock shape (CpuLru on))
    → contents (CpuLru on) ≡ in_own set → IsTrue (is_listed e set.lists) → IsIn e (rows (set_lists set)) → times e hand ≡ 0 → ((c x : ℕ) → Known c x → x ≢ e)
    → Goes shape cpu contents (Hands cpu (e ∷ hand) Known) (on_lock (CpuLru on) (parts.Own (own.Push e)) ∷ []) (Hands cpu hand Known)
unfolding own_after
goes_push_own {shape = shape} bounds {cpu = cpu} within contents Known e hand on set is lies listed inside gone away =
    let lock : DomainId = CpuLru on in
    let turn : Turn = on_lock lock (parts.Own (own.Push e)) in
    let was : lists_in (contents lock) ≡ set_lists set = ap lists_in lies in
    let after : ListSet = own_after (own.Push e) set in
    let now : lists_in (after_turn shape cpu contents turn lock) ≡ set_lists after = ap lists_in (turned_here shape cpu contents turn lock (same_lock lock) ∙ ap (content_after shape cpu turn.part) lies) in
    goes_settling bounds within contents Known e hand turn refl is refl refl refl (subst (λ (l : Lists). IsIn e (rows l)) (sym was) inside) gone away
    (λ s tied.
    let once : (x : ℕ) → times x (rows (set_lists set)) ≤ 1 = λ x. subst (λ (l : Lists). times x (rows l) ≤ 1) was (rows_few bounds within tied lock is x) in (
      tt,
      (λ x. ap (λ (l : Lists). times x l.free) now ∙ ap (λ (l : Lists). times x (e ∷ l.free)) (sym was)),
      (λ x. ap (λ (l : Lists). times x (rows l)) now
          ∙ rows_settled x e (set_lists set) once inside (times x (elements_in (in_own after))) (times x (elements_in (in_own set))) (times x after.free) (times x (rows (set_lists after)))
          (keeps_elements shape cpu turn.part (in_own set) listed (own_once bounds within tied on is set was) x) (times_append x set.free (rows (set_lists set))) (times_append x after.free (rows (set_lists after))) refl
          ∙ ap (λ (l : Lists). times x (rows (without_row e l))) (sym was)),
      subst HasCursorInside (sym now) (own_cursor (own.Push e) set (subst HasCursorInside was (subst HasCursorInside (under bounds within tied lock is) (tied.placed.placed.cursors (lock_number shape lock))))),
    ))
