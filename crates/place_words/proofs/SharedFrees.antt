-- A map whose CPUs share lists takes elements back by its rules in serial order: where they are pending, else on the global lists.
use Rattle.std.proofs.Common.{◌≡◌, ◌⊎◌, ℕ, zero, suc, ◌+◌, ◌<◌, ◌≤◌, Bool, true, false, cond, List, [], ◌∷◌, refl, ap, sym, subst, ⊎_elim, inl, inr, arith}
use Rattle.std.specs.Prelude.{Option, None, Some, MatchOption, find, unwrap_or}
use Rattle.std.specs.List.{range_with_len}
use Rattle.std.proofs.lemmas.Bool.{cond-true, cases_lt, cases_eq, both_ways}
use Rattle.std.proofs.lemmas.Option.{none-some, same_Some}
use Rattle.map_types.specs.declared.attr.Shape.{Shape}
use Rattle.map_types.specs.declared.kind.DomainId.TheVariants.{Local, Global, CpuLru}
use Rattle.place_words.specs.declared.history.Part.{Part}
use Rattle.place_words.specs.declared.history.Part.TheVariants as parts
use Rattle.place_words.specs.declared.list_part.GlobalPart.TheVariants as global
use Rattle.place_words.specs.declared.list_part.LocalPart.TheVariants as local
use Rattle.place_words.specs.Globals.{AllowsOnGlobal}
use Rattle.place_words.specs.Histories.{Content, Allows, content_after, in_bucket, on_freelist, in_locals, in_global, in_own, locals_in, global_in}
use Rattle.place_words.specs.Locals.{LocalLists, new_locals, AllowsOnLocal, local_after}
use Rattle.place_words.specs.Logs.{State, lies_in, locals_at, globals_at, freeing, freed_at}
use Rattle.place_words.specs.RowMoves.{rows_of}
use Rattle.place_words.specs.Sets.{ListSet, new_set, has_row}
use Rattle.place_words.specs.Takings.{freed_globally}
use Rattle.place_words.specs.Turns.{Turn, on_lock}
use Rattle.place_words.proofs.KeepLaws.{has_one}
use Rattle.place_words.proofs.ListSums.{list_locks, locks_below, sum_over, local_once, global_once}
use Rattle.place_words.proofs.ListTurns.{rows_fewest, IsNoBucket, push_frees}
use Rattle.place_words.proofs.OwnDone.{has_listed, set_listed, some_below, hand_listed}
use Rattle.place_words.proofs.RowCounts.{any}
use Rattle.place_words.proofs.Settled.{is_of, rows_on, IsFit, IsSettled}
use Rattle.place_words.proofs.Supplies.{IsFreed, first_of_two}

-- what lies there
pub locals_there : (content : Content) (lists : LocalLists) (Fact : LocalLists → Type 0) → MatchOption (locals_in content) ⊥ Fact → (content ≡ in_locals (unwrap_or (locals_in content) lists)) × Fact (unwrap_or (locals_in content) lists)
locals_there (in_bucket bodies) lists Fact is = absurd is
locals_there (on_freelist stack) lists Fact is = absurd is
locals_there (in_locals there) lists Fact is = (refl, is)
locals_there (in_global set) lists Fact is = absurd is
locals_there (in_own set) lists Fact is = absurd is

pub globals_there : (content : Content) (set : ListSet) → MatchOption (global_in content) ⊥ (λ (s : ListSet). Unit {0}) → content ≡ in_global (unwrap_or (global_in content) set)
globals_there (in_bucket bodies) set is = absurd is
globals_there (on_freelist stack) set is = absurd is
globals_there (in_locals lists) set is = absurd is
globals_there (in_global there) set is = refl
globals_there (in_own there) set is = absurd is

pub local_no_bucket : (cpu : ℕ) → IsNoBucket (Local cpu)
local_no_bucket cpu bucket = (refl, refl)

pub global_no_bucket : IsNoBucket Global
global_no_bucket bucket = (refl, refl)

-- What is found among the CPUs

found_step : (here : Bool) (a : ℕ) (rest : Option ℕ) (c : ℕ) → cond here (Some a) rest ≡ Some c → ((here ≡ true) × (a ≡ c)) ⊎ ((here ≡ false) × (rest ≡ Some c))
found_step true a rest c is = inl (refl, same_Some a c is)
found_step false a rest c is = inr (refl, is)

pub found_within : (p : ℕ → Bool) (a n c : ℕ) → find p (range_with_len a n) ≡ Some c → (c < a + n) × (p c ≡ true)
found_within p a zero c is = absurd (none-some c is)
found_within p a (suc n) c is =
    ⊎_elim
    (λ (here : (p a ≡ true) × (a ≡ c)). (omega (arith, here.1), subst (λ x. p x ≡ true) here.1 here.0))
    (λ (later : (p a ≡ false) × (find p (range_with_len (a + 1) n) ≡ Some c)). let rest = found_within p (a + 1) n c later.1 in (omega (arith, rest.0), rest.1))
    (found_step (p a) a (find p (range_with_len (a + 1) n)) c is)

missed_step : (here : Bool) (a : ℕ) (rest : Option ℕ) → cond here (Some a) rest ≡ None → (here ≡ false) × (rest ≡ None)
missed_step true a rest is = absurd (none-some a (sym is))
missed_step false a rest is = (refl, is)

pub missed_within : (p : ℕ → Bool) (a n : ℕ) → find p (range_with_len a n) ≡ None → (c : ℕ) → a ≤ c → c < a + n → p c ≡ false
missed_within p a zero is c from below = absurd (omega (arith, from, below))
missed_within p a (suc n) is c from below =
    let step = missed_step (p a) a (find p (range_with_len (a + 1) n)) is in
    ⊎_elim
    (λ (same : a ≡ c). subst (λ x. p x ≡ false) same step.0)
    (λ (other : a ≡ c → ⊥). missed_within p (a + 1) n step.1 c (omega (arith, from, other)) (omega (arith, below)))
    (cases_eq a c)

push_cursor : (e : ℕ) (lists : LocalLists) → (local_after (local.Push e true) lists).steal ≡ lists.steal
unfolding local_after
push_cursor e lists = refl

module _ (shape : Shape) (cpu number : ℕ) (state : State) (home e : ℕ) (hand : List ℕ) (shared : shape.common ≡ true) (settled : IsSettled shape (lies_in shape state) home (e ∷ hand)) where
  abbrev is_pending : ℕ → Bool
  is_pending c = has_row e (locals_at shape state c).pending

  -- it is pending
  local_push : (c : ℕ) → c < shape.cpus → is_pending c ≡ true → IsFreed shape cpu number state home e hand (on_lock (Local c) (parts.Local (local.Push e true)))
  local_push c below has =
      let lists : LocalLists = locals_at shape state c in
      let there = locals_there (lies_in shape state (Local c)) (new_locals c) (λ (l : LocalLists). c < shape.cpus → l.steal < shape.cpus) (settled.fit (Local c)) in
      let part : Part = parts.Local (local.Push e true) in
      let may : AllowsOnLocal shape (local.Push e true) lists = has in
      let allowed : Allows shape cpu part (lies_in shape state (Local c)) = subst (Allows shape cpu part) (sym there.0) may in
      let rows : rows_on e any (lies_in shape state (Local c)) ≡ rows_of e any lists.pending = ap (rows_on e any) there.0 in
      record {
        frees = first_of_two shape.common _ _ shared (inl (record { on = c; turns_are = refl }));
        allowed = allowed;
        settled = push_frees shape cpu (lies_in shape state) home (Local c) part (local_once shape c shared below) (local_no_bucket c) allowed (refl, refl) e hand settled
            (λ x. refl) (λ x of. refl) (λ x of. refl) (omega (arith, rows, has_one e lists.pending has))
            (subst (λ (content : Content). IsFit shape (Local c) (content_after shape cpu part content)) (sym there.0)
            (λ within. subst (λ k. k < shape.cpus) (sym (push_cursor e lists)) (there.1 within)));
      }

  -- it is on the global lists
  global_push : 1 ≤ rows_on e any (lies_in shape state Global) → IsFreed shape cpu number state home e hand (freed_globally e)
  global_push some =
      let set : ListSet = globals_at shape state in
      let there = globals_there (lies_in shape state Global) (new_set []) (settled.fit Global) in
      let part : Part = parts.Global (global.Push e) in
      let rows : rows_on e any (lies_in shape state Global) ≡ rows_on e any (in_global set) = ap (rows_on e any) there in
      let may : AllowsOnGlobal (global.Push e) set = set_listed e any set.lists (omega (arith, rows, some)) in
      let allowed : Allows shape cpu part (lies_in shape state Global) = subst (Allows shape cpu part) (sym there) may in
      record {
        frees = first_of_two shape.common _ _ shared (inr (inr refl));
        allowed = allowed;
        settled = push_frees shape cpu (lies_in shape state) home Global part (global_once shape shared) global_no_bucket allowed (refl, refl) e hand settled
            (λ x. refl) (λ x of. refl) (λ x of. refl) some
            (subst (λ (content : Content). IsFit shape Global (content_after shape cpu part content)) (sym there) tt);
      }

  shared_sum : (f : Content → ℕ) → sum_over f (lies_in shape state) (list_locks shape) ≡ f (lies_in shape state Global) + sum_over f (lies_in shape state) (locks_below Local shape.cpus)
  shared_sum f = by shape.common shared
    where
      by : (b : Bool) → b ≡ true → sum_over f (lies_in shape state) (cond b (Global ∷ locks_below Local shape.cpus) (locks_below CpuLru shape.cpus)) ≡ f (lies_in shape state Global) + sum_over f (lies_in shape state) (locks_below Local shape.cpus)
      by true is = refl
      by false is = absurd cc

  -- where it is pending nowhere it is there
  listed_globally : ((c : ℕ) → c < shape.cpus → is_pending c ≡ false) → 1 ≤ rows_on e any (lies_in shape state Global)
  listed_globally nowhere = by (cases_lt 0 (rows_on e (is_of shape home) (lies_in shape state Global)))
    where
      by : (0 < rows_on e (is_of shape home) (lies_in shape state Global)) ⊎ (rows_on e (is_of shape home) (lies_in shape state Global) ≤ 0) → 1 ≤ rows_on e any (lies_in shape state Global)
      by (inl some) = omega (arith, some, rows_fewest e (is_of shape home) (lies_in shape state Global))
      by (inr none) =
          let found = some_below (rows_on e (is_of shape home)) (lies_in shape state) Local shape.cpus (omega (arith, hand_listed settled, shared_sum (rows_on e (is_of shape home)), none)) in
          let there = locals_there (lies_in shape state (Local found.0)) (new_locals found.0) (λ (l : LocalLists). found.0 < shape.cpus → l.steal < shape.cpus) (settled.fit (Local found.0)) in
          let rows : rows_on e (is_of shape home) (lies_in shape state (Local found.0)) ≡ rows_of e (is_of shape home) (locals_at shape state found.0).pending = ap (rows_on e (is_of shape home)) there.0 in
          absurd (both_ways (is_pending found.0) (nowhere found.0 found.1) (has_listed e (is_of shape home) (locals_at shape state found.0).pending (omega (arith, rows, found.2))))

  freed_where : (found : Option ℕ) → find (λ (c : ℕ). has_row e (locals_at shape state c).pending) (range_with_len 0 shape.cpus) ≡ found → IsFreed shape cpu number state home e hand (freed_at e found)
  freed_where None is = global_push (listed_globally (λ c below. missed_within is_pending 0 shape.cpus is c (omega arith) (omega (arith, below))))
  freed_where (Some c) is = let within = found_within is_pending 0 shape.cpus c is in local_push c (omega (arith, within.0)) within.1

  pub frees_shared : IsFreed shape cpu number state home e hand (freeing shape state e)
  unfolding freeing
  frees_shared = subst (λ (turn : Turn). IsFreed shape cpu number state home e hand turn) (sym (cond-true shape.common _ _ shared)) (freed_where (find (λ (c : ℕ). has_row e (locals_at shape state c).pending) (range_with_len 0 shape.cpus)) refl)
