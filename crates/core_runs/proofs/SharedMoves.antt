-- Moves between the lists of a CPU and the global ones, in a turn that holds both locks.
use Rattle.std.proofs.Common.{◌≡◌, ◌≢◌, ℕ, suc, ◌+◌, ◌<◌, ◌≤◌, Bool, true, false, ◌&&◌, cond, eqb, ltb, List, [], ◌∷◌, ◌++◌, map, Option, None, Some, refl, ap, ◌∙◌, sym, subst, inl, inr, ⊎_elim, arith}
use Rattle.std.specs.Prelude.{IsTrue}
use Rattle.std.specs.List.{flat_map}
use Rattle.std.proofs.lemmas.Bool.{cases_Bool, cases_eq, cond-true, cond-false, eq-eqb}
use Rattle.map_types.specs.declared.attr.Shape.{Shape}
use Rattle.map_types.specs.declared.kind.DomainId.{DomainId}
use Rattle.map_types.specs.declared.kind.DomainId.TheVariants.{Local, Global, CpuLru, Bucket, Freelist}
use Rattle.map_types.specs.Kind.{is_lru}
use Rattle.map_types.specs.Shape.{HasBounds}
use Rattle.map_types.specs.ElementLists.{times, IsIn, without}
use Rattle.map_types.proofs.RowLemmas.{by_test, times_append}
use Rattle.place_words.specs.declared.home.Home.TheVariants as homes
use Rattle.place_words.specs.declared.owner.Owner.TheVariants as owners
use Rattle.place_words.specs.Locks.{is_lock, lock_number, lock_named}
use Rattle.place_words.specs.declared.step.Lists.{Lists}
use Rattle.place_words.specs.declared.step.Step.TheVariants as steps
use Rattle.place_words.specs.Places.{lies_at, has_row}
use Rattle.place_words.specs.State.{State, rows}
use Rattle.place_words.specs.Steps.{with_free, with_row, without_row, IsFreeOrInHand}
use Rattle.place_words.proofs.ElementLemmas.{times_cons_same, times_without_same, times_without_other}
use Rattle.place_words.proofs.RowLemmas.{free_is, rows_without_row_other, rows_without_row_same, rows_with_row_same, rows_with_row_other}
use Rattle.place_words.specs.Interleaving.{Event, does, freed_steps, AreEnabled}
use Rattle.core_runs.proofs.Evictions.{Hands}
use Rattle.core_runs.proofs.OwnTurns.{stacked, without_all}
use Rattle.core_runs.proofs.PlainGoes.{one_at_most}
use Rattle.core_runs.proofs.PlainRuns.{tied_alike}
use Rattle.core_runs.proofs.Rehomes.{free_lies, row_lies_there, moved_tied}
use Rattle.core_runs.proofs.Tied.{IsTied, holder_of, with_lists, held_first, under, held_there, settle_tied}

-- local lists of a CPU, and these with the global ones
abbrev pub local_lists : List ℕ → List ℕ → Lists
local_lists free pending = record { free = free; first = pending; second = []; cursor = None }

abbrev pub both_lists : ℕ → Lists → Lists → (DomainId → Lists) → DomainId → Lists
both_lists cpu l g lists = with_lists Global g (with_lists (Local cpu) l lists)

pub both_local : (cpu : ℕ) (l g : Lists) (lists : DomainId → Lists) → both_lists cpu l g lists (Local cpu) ≡ l
both_local cpu l g lists = cond-true (eqb cpu cpu) l (lists (Local cpu)) (eq-eqb cpu cpu refl)

-- lists that were changed twice
pub global_local : (cpu : ℕ) (l g l2 g2 : Lists) (lists : DomainId → Lists) (other : DomainId) → with_lists Global g2 (with_lists (Local cpu) l2 (both_lists cpu l g lists)) other ≡ both_lists cpu l2 g2 lists other
global_local cpu l g l2 g2 lists (Local c) = by (eqb cpu c)
  where
    by : (b : Bool) → cond b l2 (cond b l (lists (Local c))) ≡ cond b l2 (lists (Local c))
    by true = refl
    by false = refl
global_local cpu l g l2 g2 lists Global = refl
global_local cpu l g l2 g2 lists (CpuLru c) = refl
global_local cpu l g l2 g2 lists (Bucket b) = refl
global_local cpu l g l2 g2 lists (Freelist c) = refl

pub local_global : (cpu : ℕ) (l g l2 g2 : Lists) (lists : DomainId → Lists) (other : DomainId) → with_lists (Local cpu) l2 (with_lists Global g2 (both_lists cpu l g lists)) other ≡ both_lists cpu l2 g2 lists other
local_global cpu l g l2 g2 lists (Local c) = by (eqb cpu c)
  where
    by : (b : Bool) → cond b l2 (cond b l (lists (Local c))) ≡ cond b l2 (lists (Local c))
    by true = refl
    by false = refl
local_global cpu l g l2 g2 lists Global = refl
local_global cpu l g l2 g2 lists (CpuLru c) = refl
local_global cpu l g l2 g2 lists (Bucket b) = refl
local_global cpu l g l2 g2 lists (Freelist c) = refl

pub local_again : (cpu : ℕ) (l g l2 : Lists) (lists : DomainId → Lists) (other : DomainId) → with_lists (Local cpu) l2 (both_lists cpu l g lists) other ≡ both_lists cpu l2 g lists other
local_again cpu l g l2 lists (Local c) = by (eqb cpu c)
  where
    by : (b : Bool) → cond b l2 (cond b l (lists (Local c))) ≡ cond b l2 (lists (Local c))
    by true = refl
    by false = refl
local_again cpu l g l2 lists Global = refl
local_again cpu l g l2 lists (CpuLru c) = refl
local_again cpu l g l2 lists (Bucket b) = refl
local_again cpu l g l2 lists (Freelist c) = refl

-- Elements with a row once come to the global lists, leave the free ones, or are freed

abbrev pub rows_of_global : List ℕ → Lists → Lists
rows_of_global [] g = g
rows_of_global (e ∷ es) g = rows_of_global es (with_row Global e g)

abbrev pub rows_gone : List ℕ → Lists → Lists
rows_gone [] g = g
rows_gone (e ∷ es) g = rows_gone es (without_row e g)

pub global_free : (es : List ℕ) (g : Lists) → (rows_of_global es g).free ≡ g.free
global_free [] g = refl
global_free (e ∷ es) g = global_free es (with_row Global e g)

pub global_rows : (es : List ℕ) (g : Lists) (x : ℕ) → times x (rows (rows_of_global es g)) ≡ times x (rows g) + times x es
global_rows [] g x = omega arith
global_rows (e ∷ es) g x =
    let rest = global_rows es (with_row Global e g) x in
    by_test e x (λ b. times x (rows (rows_of_global es (with_row Global e g))) ≡ times x (rows g) + cond b (suc (times x es)) (times x es))
    (λ same. let more : times x (rows (with_row Global e g)) ≡ times x (rows g) + 1 = subst (λ (y : ℕ). times x (rows (with_row Global y g)) ≡ times x (rows g) + 1) (sym same) (rows_with_row_same Global x g refl) in omega (arith, rest, more))
    (λ other. let stays = rows_with_row_other Global x e g (λ same. other (sym same)) in omega (arith, rest, stays))

pub gone_free : (es : List ℕ) (g : Lists) → (rows_gone es g).free ≡ g.free
gone_free [] g = refl
gone_free (e ∷ es) g = gone_free es (without_row e g)

pub left_alone : (x : ℕ) (es ys : List ℕ) → times x es ≡ 0 → times x (without_all es ys) ≡ times x ys
left_alone x [] ys none = refl
left_alone x (e ∷ es) ys none =
    by_test e x (λ b. cond b (suc (times x es)) (times x es) ≡ 0 → times x (without_all es (without e ys)) ≡ times x ys)
    (λ same some. absurd (omega (arith, some)))
    (λ other rest. left_alone x es (without e ys) rest ∙ times_without_other x e ys (λ same. other (sym same))) none

pub local_lock : (shape : Shape) (cpu : ℕ) → IsTrue shape.common → cpu < shape.cpus → is_lock shape (Local cpu) ≡ true
local_lock shape cpu common within = rw (common, Rattle.std.proofs.lemmas.Bool.lt-ltb cpu shape.cpus within) refl

pub mine_local : (cpu : ℕ) → holder_of cpu (Global ∷ Local cpu ∷ []) (Local cpu) ≡ Some cpu
mine_local cpu = held_first cpu [] (Local cpu)

-- rows stand once
pub rows_few : {shape : Shape} (bounds : HasBounds shape) {cpu : ℕ} (within : cpu < shape.cpus) {held : List DomainId} {lists : DomainId → Lists} {Known : ℕ → ℕ → Type 0} {s : State} → IsTied shape cpu held lists Known s
    → (lock : DomainId) → IsTrue (is_lock shape lock) → (e : ℕ) → times e (rows (lists lock)) ≤ 1
rows_few {shape = shape} bounds within {lists = lists} {s = s} tied lock is e =
    let number : ℕ = lock_number shape lock in
    let same : times e (rows (s.lists number)) ≡ times e (rows (lists lock)) = ap (λ (l : Lists). times e (rows l)) (under bounds within tied lock is) in
    omega (arith, same, tied.placed.placed.rows number e, one_at_most (ltb e shape.elements && has_row (is_lru shape.kind) (lock_named shape number) (s.owner e) (lies_at number (tied.placed.place e))))

module _ {shape : Shape} (bounds : HasBounds shape) (lru : is_lru shape.kind ≡ true) (common : IsTrue shape.common) {cpu : ℕ} (within : cpu < shape.cpus) {Known : ℕ → ℕ → Type 0} where
  -- Pending elements are flushed to the global lists.
  pub flushing_runs : (es free pending : List ℕ) (g : Lists) {s : State} (lists : DomainId → Lists) (more : List Event) → IsTied shape cpu (Global ∷ Local cpu ∷ []) (both_lists cpu (local_lists free pending) g lists) Known s
      → ((x : ℕ) → times x es ≤ 1) → ((x : ℕ) → IsIn x es → IsIn x pending)
      → ((t : State) → IsTied shape cpu (Global ∷ Local cpu ∷ []) (both_lists cpu (local_lists free (without_all es pending)) (rows_of_global es g) lists) Known t → AreEnabled shape t more)
      → AreEnabled shape s (map does (map (λ e. steps.Rehome cpu e (homes.In Global)) es) ++ more)
  unfolding AreEnabled
  flushing_runs [] free pending g {s = s} lists more tied once there rest = rest s tied
  flushing_runs (e ∷ es) free pending g {s = s} lists more tied once there rest =
      let first : IsIn e (e ∷ es) = let here = times_cons_same e es in omega (arith, here) in
      let local_is = both_local cpu (local_lists free pending) g lists in
      let inside : IsIn e (rows (both_lists cpu (local_lists free pending) g lists (Local cpu))) = subst (λ (l : Lists). IsIn e (rows l)) (sym local_is) (let sum = times_append e pending [] in omega (arith, sum, there e first)) in
      let lies = row_lies_there bounds lru within tied (Local cpu) e (local_lock shape cpu common within) refl inside in
      let moved = moved_tied bounds lru within tied (Local cpu) Global e false (local_lists free (without e pending)) (with_row Global e g) (λ same. absurd cc) common (local_lock shape cpu common within) common (mine_local cpu) lies
      (record { is_cpu = within; is_lock = common; held = held_there bounds within tied Global common (held_first cpu (Local cpu ∷ []) Global) }) (ap (without_row e) local_is) refl in (
        moved.enabled,
        flushing_runs es free (without e pending) (with_row Global e g) lists more
            (tied_alike (global_local cpu (local_lists free pending) g (local_lists free (without e pending)) (with_row Global e g) lists) moved.tied)
            (λ x. by_test e x (λ b. cond b (suc (times x es)) (times x es) ≤ 1 → times x es ≤ 1) (λ same few. omega (arith, few)) (λ other few. few) (once x))
            (λ x inside_rest. subst (λ (k : ℕ). 0 < k) (sym (times_without_other x e pending (apart x inside_rest (once e)))) (there x (by_test e x (λ b. 0 < cond b (suc (times x es)) (times x es)) (λ same. omega arith) (λ other. inside_rest))))
            rest,
      )
    where
      apart : (x : ℕ) → IsIn x es → times e (e ∷ es) ≤ 1 → x ≢ e
      apart x inside few same = let here = times_cons_same e es in let some : 0 < times e es = subst (λ (y : ℕ). 0 < times y es) same inside in omega (arith, few, here, some)

  -- Free elements come from the head of the global free list to that of the CPU's.
  pub freeing_runs : (es free left pending : List ℕ) (first second : List ℕ) (cursor : Option ℕ) {s : State} (lists : DomainId → Lists) (more : List Event)
      → IsTied shape cpu (Global ∷ Local cpu ∷ []) (both_lists cpu (local_lists free pending) (record { free = es ++ left; first = first; second = second; cursor = cursor }) lists) Known s
      → ((t : State) → IsTied shape cpu (Global ∷ Local cpu ∷ []) (both_lists cpu (local_lists (stacked es free) pending) (record { free = left; first = first; second = second; cursor = cursor }) lists) Known t → AreEnabled shape t more)
      → AreEnabled shape s (map does (map (λ e. steps.Rehome cpu e (homes.In (Local cpu))) es) ++ more)
  unfolding AreEnabled
  freeing_runs [] free left pending first second cursor {s = s} lists more tied rest = rest s tied
  freeing_runs (e ∷ es) free left pending first second cursor {s = s} lists more tied rest =
      let g : Lists = record { free = e ∷ (es ++ left); first = first; second = second; cursor = cursor } in
      let inside : IsIn e (e ∷ (es ++ left)) = let here = times_cons_same e (es ++ left) in omega (arith, here) in
      let lies = free_lies bounds lru within tied Global e common inside in
      let owner : s.owner e ≡ owners.Free = free_is (s.owner e) lies.is in
      let removed : without e (e ∷ (es ++ left)) ≡ es ++ left = cond-true (eqb e e) (es ++ left) (e ∷ without e (es ++ left)) (eq-eqb e e refl) in
      let moved = moved_tied bounds lru within tied Global (Local cpu) e true (record { free = es ++ left; first = first; second = second; cursor = cursor }) (local_lists (e ∷ free) pending) (λ same. absurd cc) common common (local_lock shape cpu common within) (held_first cpu (Local cpu ∷ []) Global) lies
      (record { is_cpu = within; is_lock = (local_lock shape cpu common within); held = held_there bounds within tied (Local cpu) (local_lock shape cpu common within) (mine_local cpu) }, subst (IsFreeOrInHand cpu) (sym owner) tt)
      (ap (λ (xs : List ℕ). record { free = xs; first = first; second = second; cursor = cursor }) removed) (ap (with_free e) (both_local cpu (local_lists free pending) g lists)) in (
        moved.enabled,
        freeing_runs es (e ∷ free) left pending first second cursor lists more
            (tied_alike (local_global cpu (local_lists free pending) g (local_lists (e ∷ free) pending) (record { free = es ++ left; first = first; second = second; cursor = cursor }) lists) moved.tied) rest,
      )

  -- Elements of the hand that the global lists list are freed: they come to the head of the CPU's free list.
  pub freed_runs : (es free pending hand : List ℕ) (g : Lists) {s : State} (lists : DomainId → Lists) (more : List Event)
      → IsTied shape cpu (Global ∷ Local cpu ∷ []) (both_lists cpu (local_lists free pending) g lists) (Hands cpu hand Known) s
      → ((x : ℕ) → times x es ≤ 1) → ((x : ℕ) → IsIn x es → IsIn x (rows g)) → ((x : ℕ) → IsIn x es → IsIn x hand) → ((x : ℕ) → times x hand ≤ 1) → ((c x : ℕ) → Known c x → times x hand ≡ 0)
      → ((t : State) → ((x : ℕ) → times x (rows (rows_gone es g)) + times x es ≡ times x (rows g))
      → IsTied shape cpu (Global ∷ Local cpu ∷ []) (both_lists cpu (local_lists (stacked es free) pending) (rows_gone es g) lists) (Hands cpu (without_all es hand) Known) t → AreEnabled shape t more)
      → AreEnabled shape s (map does (flat_map (freed_steps cpu) es) ++ more)
  unfolding AreEnabled
  freed_runs [] free pending hand g {s = s} lists more tied once listed mine few apart rest = rest s (λ x. omega arith) tied
  freed_runs (e ∷ es) free pending hand g {s = s} lists more tied once listed mine few apart rest =
      let first : IsIn e (e ∷ es) = let here = times_cons_same e es in omega (arith, here) in
      let there : is_lock shape (Local cpu) ≡ true = local_lock shape cpu common within in
      let lies = row_lies_there bounds lru within tied Global e common refl (listed e first) in
      let in_hand : s.owner e ≡ owners.Hand cpu = (tied.known cpu e (inl (mine e first, refl))).1 in
      let local_is = both_local cpu (local_lists free pending) g lists in
      let row_once : (x : ℕ) → times x (rows g) ≤ 1 = λ x. rows_few bounds within tied Global common x in
      let moved = moved_tied bounds lru within tied Global (Local cpu) e false (without_row e g) (local_lists free (e ∷ pending)) (λ same. absurd cc) common common there (held_first cpu (Local cpu ∷ []) Global) lies
      (record { is_cpu = within; is_lock = there; held = held_there bounds within tied (Local cpu) there (mine_local cpu) }, subst (IsFreeOrInHand cpu) (sym in_hand) refl)
      refl (ap (with_row (Local cpu) e) local_is) in
      let then : IsTied shape cpu (Global ∷ Local cpu ∷ []) (both_lists cpu (local_lists free (e ∷ pending)) (without_row e g) lists) (Hands cpu hand Known) _ =
      tied_alike (local_global cpu (local_lists free pending) g (local_lists free (e ∷ pending)) (without_row e g) lists) moved.tied in
      let then_local = both_local cpu (local_lists free (e ∷ pending)) (without_row e g) lists in
      let removed : without e (e ∷ pending) ≡ pending = cond-true (eqb e e) pending (e ∷ without e pending) (eq-eqb e e refl) in
      let settled = settle_tied bounds within then (Local cpu) e (local_lists (e ∷ free) pending) (Hands cpu (without e hand) Known) there refl (mine_local cpu) (inl (mine e first, refl))
      (λ is. subst (λ (l : Lists). IsIn e (rows l)) (sym then_local) (let sum = times_append e (e ∷ pending) [] in let here = times_cons_same e pending in omega (arith, sum, here)))
      (ap (λ (l : Lists). with_free e (without_row e l)) then_local ∙ ap (λ (xs : List ℕ). local_lists (e ∷ free) xs) removed)
      (λ c x held. ⊎_elim
      (λ (in_rest : IsIn x (without e hand) × (c ≡ cpu)). kept x c (few e) in_rest.0 in_rest.1)
      (λ (known : Known c x). (inr known, λ same. let none = apart c x known in let some : 0 < times x hand = subst (λ (y : ℕ). 0 < times y hand) (sym same) (mine e first) in omega (arith, none, some)))
      held) in (
        moved.enabled,
        (
          settled.enabled,
          freed_runs es (e ∷ free) pending (without e hand) (without_row e g) lists more
              (tied_alike (local_again cpu (local_lists free (e ∷ pending)) (without_row e g) (local_lists (e ∷ free) pending) lists) settled.tied)
              (λ x. by_test e x (λ b. cond b (suc (times x es)) (times x es) ≤ 1 → times x es ≤ 1) (λ same less. omega (arith, less)) (λ other less. less) (once x))
              (λ x inside. subst (λ (k : ℕ). 0 < k) (sym (rows_without_row_other x e g (differs x inside (once e)))) (listed x (later x inside)))
              (λ x inside. subst (λ (k : ℕ). 0 < k) (sym (times_without_other x e hand (differs x inside (once e)))) (mine x (later x inside)))
              (λ x. ⊎_elim (λ (same : x ≡ e). subst (λ (y : ℕ). times y (without e hand) ≤ 1) (sym same) (let less = times_without_same e hand in let most = few e in omega (arith, less, most))) (λ (other : x ≡ e → ⊥). let stays = times_without_other x e hand other in let most = few x in omega (arith, stays, most)) (cases_eq x e))
              (λ c x known. ⊎_elim (λ (same : x ≡ e). let none = apart c x known in let some : 0 < times x hand = subst (λ (y : ℕ). 0 < times y hand) (sym same) (mine e first) in absurd (omega (arith, none, some))) (λ (other : x ≡ e → ⊥). times_without_other x e hand other ∙ apart c x known) (cases_eq x e))
              (λ t counts held. rest t
              (λ x. let count = counts x in by_test e x (λ b. times x (rows (rows_gone es (without_row e g))) + cond b (suc (times x es)) (times x es) ≡ times x (rows g))
              (λ same. let none : times x (rows (without_row e g)) ≡ 0 = subst (λ (y : ℕ). times y (rows (without_row e g)) ≡ 0) same (rows_without_row_same e g (row_once e)) in let some : 0 < times x (rows g) = subst (λ (y : ℕ). 0 < times y (rows g)) same (listed e first) in let most = row_once x in omega (arith, count, none, some, most))
              (λ other. let stays = rows_without_row_other x e g (λ same. other (sym same)) in omega (arith, count, stays)))
              held),
        ),
      )
    where
      later : (x : ℕ) → IsIn x es → IsIn x (e ∷ es)
      later x inside = by_test e x (λ b. 0 < cond b (suc (times x es)) (times x es)) (λ same. omega arith) (λ other. inside)

      differs : (x : ℕ) → IsIn x es → times e (e ∷ es) ≤ 1 → x ≢ e
      differs x inside less same = let here = times_cons_same e es in let some : 0 < times e es = subst (λ (y : ℕ). 0 < times y es) same inside in omega (arith, less, here, some)

      kept : (x c : ℕ) → times e hand ≤ 1 → IsIn x (without e hand) → c ≡ cpu → Hands cpu hand Known c x × (x ≢ e)
      kept x c less inside same_cpu =
          ⊎_elim
          (λ (same : x ≡ e). absurd (let none = times_without_same e hand in let some : 0 < times e (without e hand) = subst (λ (y : ℕ). 0 < times y (without e hand)) same inside in omega (arith, none, less, some)))
          (λ (other : x ≡ e → ⊥). (inl (subst (λ (k : ℕ). 0 < k) (times_without_other x e hand other) inside, same_cpu), other))
          (cases_eq x e)
