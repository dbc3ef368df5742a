-- A turn of a CPU's own list set is a run of the core, with the evictions inside it.
use Rattle.std.proofs.Common.{◌≡◌, ◌≢◌, ℕ, suc, ◌+◌, ◌<◌, ◌≤◌, Bool, true, false, cond, List, [], ◌∷◌, ◌++◌, map, Some, refl, ap, ◌∙◌, sym, subst, inl, inr, ⊎_elim, arith}
use Rattle.std.specs.Prelude.{IsTrue, IsFalse}
use Rattle.std.proofs.lemmas.Bool.{cases_eq}
use Rattle.map_types.specs.declared.attr.Shape.{Shape}
use Rattle.map_types.specs.declared.kind.DomainId.{DomainId}
use Rattle.map_types.specs.Shape.{HasBounds}
use Rattle.map_types.specs.ElementLists.{IsIn, times, without}
use Rattle.map_types.proofs.RowLemmas.{by_test}
use Rattle.place_words.specs.Locks.{rank_of, is_lock, lock_number, lock_named}
use Rattle.place_words.specs.declared.step.Lists.{Lists}
use Rattle.place_words.specs.declared.step.Step.TheVariants as steps
use Rattle.place_words.specs.State.{State, rows, is_bucket}
use Rattle.place_words.specs.Steps.{with_free, without_row}
use Rattle.place_words.proofs.ElementLemmas.{times_cons_same, times_without_same, times_without_other}
use Rattle.place_words.proofs.RowLemmas.{rows_without_row_other, rows_without_row_same}
use Rattle.place_words.specs.Interleaving.{Event, does, AreEnabled}
use Rattle.core_runs.proofs.Evictions.{Hands}
use Rattle.core_runs.proofs.PlainRuns.{tied_alike}
use Rattle.core_runs.proofs.Tied.{IsTied, with_lists, holder_of, lists_here, settle_tied}

-- elements of the hand that are listed are settled one after another
abbrev pub settled_all : List ℕ → Lists → Lists
settled_all [] l = l
settled_all (e ∷ es) l = settled_all es (with_free e (without_row e l))

abbrev pub without_all : List ℕ → List ℕ → List ℕ
without_all [] hand = hand
without_all (e ∷ es) hand = without_all es (without e hand)

abbrev pub stacked : List ℕ → List ℕ → List ℕ
stacked [] free = free
stacked (e ∷ es) free = stacked es (e ∷ free)

pub settled_free : (es : List ℕ) (l : Lists) → (settled_all es l).free ≡ stacked es l.free
settled_free [] l = refl
settled_free (e ∷ es) l = settled_free es (with_free e (without_row e l))

-- Each of these is in the hand and listed, and none stands twice.
pub record CanSettleAll (hand : List ℕ) (l : Lists) (es : List ℕ) : Type 0 where
  pub once : (x : ℕ) → times x es ≤ 1
  pub in_hand : (x : ℕ) → IsIn x es → IsIn x hand
  pub listed : (x : ℕ) → IsIn x es → IsIn x (rows l)
  pub rows_once : (x : ℕ) → times x (rows l) ≤ 1

settle_first : (hand : List ℕ) (l : Lists) (e : ℕ) (es : List ℕ) → CanSettleAll hand l (e ∷ es) → CanSettleAll (without e hand) (with_free e (without_row e l)) es
settle_first hand l e es can = record {
  once = λ x. by_test e x (λ b. cond b (suc (times x es)) (times x es) ≤ 1 → times x es ≤ 1) (λ same few. omega (arith, few)) (λ other few. few) (can.once x);
  in_hand = λ x inside. subst (λ (k : ℕ). 0 < k) (sym (times_without_other x e hand (differs x inside))) (can.in_hand x (later x inside));
  listed = λ x inside. subst (λ (k : ℕ). 0 < k) (sym (rows_without_row_other x e l (differs x inside))) (can.listed x (later x inside));
  rows_once = λ x. by_test e x (λ b. times x (rows (without_row e l)) ≤ 1)
      (λ same. subst (λ (y : ℕ). times y (rows (without_row e l)) ≤ 1) same (let none = rows_without_row_same e l (can.rows_once e) in omega (arith, none)))
      (λ other. let rest = rows_without_row_other x e l (λ same. other (sym same)) in omega (arith, rest, can.rows_once x));
}
  where
    differs : (x : ℕ) → IsIn x es → x ≢ e
    differs x inside same = let few = can.once e in let more = times_cons_same e es in let here : 0 < times e es = subst (λ (y : ℕ). 0 < times y es) same inside in omega (arith, few, more, here)

    later : (x : ℕ) → IsIn x es → IsIn x (e ∷ es)
    later x inside = by_test e x (λ b. 0 < cond b (suc (times x es)) (times x es)) (λ same. omega arith) (λ other. inside)

-- rows that are settled are free
pub settled_rows : (hand : List ℕ) (es : List ℕ) (l : Lists) → CanSettleAll hand l es → (x : ℕ) → times x (rows (settled_all es l)) + times x es ≡ times x (rows l)
settled_rows hand [] l can x = omega arith
settled_rows hand (e ∷ es) l can x =
    let rest = settled_rows (without e hand) es (with_free e (without_row e l)) (settle_first hand l e es can) x in
    by_test e x (λ b. times x (rows (settled_all es (with_free e (without_row e l)))) + cond b (suc (times x es)) (times x es) ≡ times x (rows l))
    (λ same.
    let none : times x (rows (without_row e l)) ≡ 0 = subst (λ (y : ℕ). times y (rows (without_row e l)) ≡ 0) same (rows_without_row_same e l (can.rows_once e)) in
    let there : 0 < times x (rows l) = can.listed x (by_test e x (λ b. 0 < cond b (suc (times x es)) (times x es)) (λ is. omega arith) (λ other. absurd (other same))) in
    omega (arith, rest, none, there, can.rows_once x))
    (λ other. let stays = rows_without_row_other x e l (λ same. other (sym same)) in omega (arith, rest, stays))

module _ {shape : Shape} (bounds : HasBounds shape) {cpu : ℕ} (within : cpu < shape.cpus) {Known : ℕ → ℕ → Type 0} (lock : DomainId) (is : IsTrue (is_lock shape lock)) (list : IsFalse (is_bucket lock)) {held : List DomainId} (mine : holder_of cpu held lock ≡ Some cpu) where
  pub settling_runs : (es hand : List ℕ) (l : Lists) {s : State} (lists : DomainId → Lists) (more : List Event) → IsTied shape cpu held (with_lists lock l lists) (Hands cpu hand Known) s
      → CanSettleAll hand l es → ((x : ℕ) → times x hand ≤ 1) → ((c x : ℕ) → Known c x → times x hand ≡ 0)
      → ((t : State) → IsTied shape cpu held (with_lists lock (settled_all es l) lists) (Hands cpu (without_all es hand) Known) t → AreEnabled shape t more)
      → AreEnabled shape s (map does (map (λ e. steps.Settle cpu e lock) es) ++ more)
  unfolding AreEnabled
  settling_runs [] hand l {s = s} lists more tied can once apart rest = rest s tied
  settling_runs (e ∷ es) hand l {s = s} lists more tied can once apart rest =
      let first : IsIn e (e ∷ es) = by_test e e (λ b. 0 < cond b (suc (times e es)) (times e es)) (λ same. omega arith) (λ other. absurd (other refl)) in
      let here : with_lists lock l lists lock ≡ l = lists_here lock l lists in
      let settled = settle_tied bounds within tied lock e (with_free e (without_row e l)) (Hands cpu (without e hand) Known) is list mine (inl (can.in_hand e first, refl))
      (λ lru. subst (λ (x : Lists). IsIn e (rows x)) (sym here) (can.listed e first)) (ap (λ (x : Lists). with_free e (without_row e x)) here)
      (λ c x held_there. ⊎_elim
      (λ (in_hand : IsIn x (without e hand) × (c ≡ cpu)). kept x c in_hand.0 in_hand.1)
      (λ (known : Known c x). (inr known, λ same. let none = apart c x known in let some : 0 < times x hand = subst (λ (y : ℕ). 0 < times y hand) (sym same) (can.in_hand e first) in omega (arith, none, some)))
      held_there) in (
        settled.enabled,
        settling_runs es (without e hand) (with_free e (without_row e l)) lists more
            (tied_alike (λ other. alike other (Rattle.place_words.specs.Locks.is_same_lock lock other)) settled.tied)
            (settle_first hand l e es can)
            (λ x. fewer x (once x))
            (λ c x known. gone x (apart c x known))
            rest,
      )
    where
      kept : (x c : ℕ) → IsIn x (without e hand) → c ≡ cpu → Hands cpu hand Known c x × (x ≢ e)
      kept x c inside same_cpu =
          ⊎_elim
          (λ (same : x ≡ e). absurd (let none = times_without_same e hand in let few = once e in let some : 0 < times e (without e hand) = subst (λ (y : ℕ). 0 < times y (without e hand)) same inside in omega (arith, none, few, some)))
          (λ (other : x ≡ e → ⊥). (inl (subst (λ (k : ℕ). 0 < k) (times_without_other x e hand other) inside, same_cpu), other))
          (cases_eq x e)

      fewer : (x : ℕ) → times x hand ≤ 1 → times x (without e hand) ≤ 1
      fewer x few = ⊎_elim (λ (same : x ≡ e). subst (λ (y : ℕ). times y (without e hand) ≤ 1) (sym same) (let less = times_without_same e hand in let most = once e in omega (arith, less, most))) (λ (other : x ≡ e → ⊥). let stays = times_without_other x e hand other in omega (arith, stays, few)) (cases_eq x e)

      gone : (x : ℕ) → times x hand ≡ 0 → times x (without e hand) ≡ 0
      gone x none = ⊎_elim (λ (same : x ≡ e). let less = times_without_same e hand in let zero_there : times e hand ≡ 0 = subst (λ (y : ℕ). times y hand ≡ 0) same none in subst (λ (y : ℕ). times y (without e hand) ≡ 0) (sym same) (omega (arith, less, zero_there))) (λ (other : x ≡ e → ⊥). times_without_other x e hand other ∙ none) (cases_eq x e)

      alike : (other : DomainId) (b : Bool) → cond b (with_free e (without_row e l)) (cond b l (lists other)) ≡ cond b (with_free e (without_row e l)) (lists other)
      alike other true = refl
      alike other false = refl
