-- What the steps of a strand make of the least tickets.
use Rattle.std.proofs.Common.{◌≡◌, ◌≢◌, ◌⊎◌, inl, inr, ℕ, zero, suc, ◌+◌, ◌<◌, ◌≤◌, max, List, [], ◌∷◌, length, drop, get_or, set, refl, ap, sym, ◌∙◌, subst, ⊎_elim, arith, Some}
use Rattle.std.specs.Prelude.{slice_get}
use Rattle.std.proofs.lemmas.Bool.{cases_eq, cases_lt}
use Rattle.std.proofs.Math.ListN.{get_or-eq_default}
use Rattle.std.proofs.lemmas.List.{drop_more, length-set, get_or-set_same, get_or-set_other}
use Rattle.std.proofs.lemmas.Option.{none-some, same_Some}
use Rattle.place_words.specs.declared.history.Strand.{Strand}
use Rattle.place_words.specs.declared.history.StrandStep.{StrandStep}
use Rattle.record_order.specs.TicketTables.{next_least, raised, raised_for_all}

-- two steps come one right after the other
pub record Follow (steps : List StrandStep) (before step : StrandStep) : Type 0 where
  pub at : ℕ
  pub first : slice_get steps at ≡ Some before
  pub second : slice_get steps (suc at) ≡ Some step

module _ (number : StrandStep → ℕ) (ts : List ℕ) where
  -- the least ticket that may follow a step's
  abbrev pub behind : StrandStep → ℕ
  behind step = next_least (get_or ts (number step) 0)

  -- a loop over the steps, one step on
  pub raised_on : (steps : List StrandStep) (i : ℕ) (step : StrandStep) (leasts now : List ℕ) (least next n : ℕ) → i < length steps → get_or steps i step ≡ step → n ≡ number step
      → next ≡ next_least (get_or ts n 0) → now ≡ set leasts n (max (get_or leasts n 0) least) → (all : List ℕ) → raised number ts least (drop i steps) leasts ≡ all
      → raised number ts next (drop (i + 1) steps) now ≡ all
  raised_on steps i step leasts now least next n less at numbered is raised_there all before =
      let left : drop i steps ≡ step ∷ drop (i + 1) steps = drop_more steps i step less ∙ ap (λ (s : StrandStep). s ∷ drop (i + 1) steps) at in
      (λ j. raised number ts (is j) (drop (i + 1) steps) (raised_there j))
      ∙ ap (λ (k : ℕ). raised number ts (next_least (get_or ts k 0)) (drop (i + 1) steps) (set leasts k (max (get_or leasts k 0) least))) numbered
      ∙ ap (λ (rest : List StrandStep). raised number ts least rest leasts) (sym left)
      ∙ before

  pub raised_long : (least : ℕ) (steps : List StrandStep) (leasts : List ℕ) → length (raised number ts least steps leasts) ≡ length leasts
  raised_long least [] leasts = refl
  raised_long least (step ∷ steps) leasts = raised_long (behind step) steps _ ∙ length-set leasts (number step) _

  -- one place is raised
  set_more : (leasts : List ℕ) (n least k : ℕ) → get_or leasts k 0 ≤ get_or (set leasts n (max (get_or leasts n 0) least)) k 0
  set_more leasts n least k = ⊎_elim
      (λ (is : k ≡ n). ⊎_elim
      (λ (within : n < length leasts). let now = get_or-set_same leasts n (max (get_or leasts n 0) least) 0 within in subst (λ (j : ℕ). get_or leasts j 0 ≤ get_or (set leasts n (max (get_or leasts n 0) least)) j 0) (sym is) (omega arith))
      (λ (past : length leasts ≤ n). let none : get_or leasts k 0 ≡ 0 = get_or-eq_default leasts 0 (omega arith) in omega arith)
      (cases_lt n (length leasts)))
      (λ (other : k ≢ n). let now = get_or-set_other leasts n k (max (get_or leasts n 0) least) 0 other in omega arith)
      (cases_eq k n)

  pub raised_more : (least : ℕ) (steps : List StrandStep) (leasts : List ℕ) (k : ℕ) → get_or leasts k 0 ≤ get_or (raised number ts least steps leasts) k 0
  raised_more least [] leasts k = omega arith
  raised_more least (step ∷ steps) leasts k =
      let first = set_more leasts (number step) least k in
      let rest = raised_more (behind step) steps (set leasts (number step) (max (get_or leasts (number step) 0) least)) k in
      omega arith

  raised_first : (least : ℕ) (step : StrandStep) (steps : List StrandStep) (leasts : List ℕ) → number step < length leasts → least ≤ get_or (raised number ts least (step ∷ steps) leasts) (number step) 0
  raised_first least step steps leasts within =
      let now = get_or-set_same leasts (number step) (max (get_or leasts (number step) 0) least) 0 within in
      let rest = raised_more (behind step) steps (set leasts (number step) (max (get_or leasts (number step) 0) least)) (number step) in
      omega arith

  -- what comes right after a step is raised above it
  pub raised_next : (least : ℕ) (steps : List StrandStep) (leasts : List ℕ) (i : ℕ) (a b : StrandStep) → slice_get steps i ≡ Some a → slice_get steps (suc i) ≡ Some b → number b < length leasts
      → behind a ≤ get_or (raised number ts least steps leasts) (number b) 0
  raised_next least [] leasts i a b first second within = absurd (none-some a first)
  raised_next least (x ∷ []) leasts zero a b first second within = absurd (none-some b second)
  raised_next least (x ∷ y ∷ steps) leasts zero a b first second within =
      let here = same_Some x a first in
      let next = same_Some y b second in
      let now : List ℕ = set leasts (number x) (max (get_or leasts (number x) 0) least) in
      let long = length-set leasts (number x) (max (get_or leasts (number x) 0) least) in
      let least_there : behind x ≤ get_or (raised number ts (behind x) (y ∷ steps) now) (number y) 0 =
      raised_first (behind x) y steps now (let same : number y ≡ number b = ap number next in omega arith) in
      subst (λ (s : StrandStep). behind s ≤ get_or (raised number ts (behind x) (y ∷ steps) now) (number b) 0) here
      (subst (λ (s : StrandStep). behind x ≤ get_or (raised number ts (behind x) (y ∷ steps) now) (number s) 0) next least_there)
  raised_next least (x ∷ steps) leasts (suc i) a b first second within =
      let long = length-set leasts (number x) (max (get_or leasts (number x) 0) least) in
      raised_next (behind x) steps (set leasts (number x) (max (get_or leasts (number x) 0) least)) i a b first second (omega arith)

  -- what is raised is so by the least of the first step, or by a step that comes right before
  data Origin (least : ℕ) (steps : List StrandStep) (leasts : List ℕ) (k value : ℕ) : Type 0 where
    kept : value ≤ get_or leasts k 0 → Origin least steps leasts k value
    by_first : (step : StrandStep) → slice_get steps 0 ≡ Some step → number step ≡ k → value ≤ least → Origin least steps leasts k value
    by_step : (a b : StrandStep) → Follow steps a b → number b ≡ k → value ≤ behind a → Origin least steps leasts k value

  set_origin : (leasts : List ℕ) (n least k : ℕ) → (get_or (set leasts n (max (get_or leasts n 0) least)) k 0 ≤ get_or leasts k 0) ⊎ ((n ≡ k) × (get_or (set leasts n (max (get_or leasts n 0) least)) k 0 ≤ least))
  set_origin leasts n least k = ⊎_elim
      (λ (is : k ≡ n). ⊎_elim
      (λ (within : n < length leasts).
      let now : get_or (set leasts n (max (get_or leasts n 0) least)) k 0 ≡ max (get_or leasts n 0) least = ap (λ (j : ℕ). get_or (set leasts n (max (get_or leasts n 0) least)) j 0) is ∙ get_or-set_same leasts n (max (get_or leasts n 0) least) 0 within in
      let same : get_or leasts n 0 ≡ get_or leasts k 0 = ap (λ (j : ℕ). get_or leasts j 0) (sym is) in
      ⊎_elim
      (λ (less : get_or leasts n 0 < least). inr (sym is, omega arith))
      (λ (more : least ≤ get_or leasts n 0). inl (omega arith))
      (cases_lt (get_or leasts n 0) least))
      (λ (past : length leasts ≤ n).
      let long = length-set leasts n (max (get_or leasts n 0) least) in
      let none : get_or (set leasts n (max (get_or leasts n 0) least)) k 0 ≡ 0 = get_or-eq_default (set leasts n (max (get_or leasts n 0) least)) 0 (omega arith) in
      inl (omega arith))
      (cases_lt n (length leasts)))
      (λ (other : k ≢ n). let now = get_or-set_other leasts n k (max (get_or leasts n 0) least) 0 other in inl (omega arith))
      (cases_eq k n)

  origin : (least : ℕ) (steps : List StrandStep) (leasts : List ℕ) (k : ℕ) → Origin least steps leasts k (get_or (raised number ts least steps leasts) k 0)
  origin least [] leasts k = kept (omega arith)
  origin least (x ∷ steps) leasts k =
      go (origin (behind x) steps now k)
    where
      now : List ℕ
      now = set leasts (number x) (max (get_or leasts (number x) 0) least)

      go : {value : ℕ} → Origin (behind x) steps now k value → Origin least (x ∷ steps) leasts k value
      go (kept low) = ⊎_elim
          (λ (more : get_or now k 0 ≤ get_or leasts k 0). kept (omega arith))
          (λ (first : (number x ≡ k) × (get_or now k 0 ≤ least)). by_first x refl first.0 (let high = first.1 in omega arith))
          (set_origin leasts (number x) least k)
      go (by_first step at is low) = by_step x step (record { at = 0; first = refl; second = at }) is low
      go (by_step a b follow is low) = by_step a b (record { at = suc follow.at; first = follow.first; second = follow.second }) is low

  -- all strands

  pub raised_for_all_long : (strands : List Strand) (leasts : List ℕ) → length (raised_for_all number ts strands leasts) ≡ length leasts
  raised_for_all_long [] leasts = refl
  raised_for_all_long (strand ∷ strands) leasts = raised_for_all_long strands (raised number ts 0 strand.steps leasts) ∙ raised_long 0 strand.steps leasts

  pub all_more : (strands : List Strand) (leasts : List ℕ) (k : ℕ) → get_or leasts k 0 ≤ get_or (raised_for_all number ts strands leasts) k 0
  all_more [] leasts k = omega arith
  all_more (strand ∷ strands) leasts k =
      let first = raised_more 0 strand.steps leasts k in
      let rest = all_more strands (raised number ts 0 strand.steps leasts) k in
      omega arith

  pub all_next : (strands : List Strand) (leasts : List ℕ) (n : ℕ) (strand : Strand) (a b : StrandStep) → slice_get strands n ≡ Some strand → Follow strand.steps a b → number b < length leasts
      → behind a ≤ get_or (raised_for_all number ts strands leasts) (number b) 0
  all_next [] leasts n strand a b there follow room = absurd (none-some strand there)
  all_next (s ∷ strands) leasts zero strand a b there follow room =
      let is : s ≡ strand = same_Some s strand there in
      let first : behind a ≤ get_or (raised number ts 0 s.steps leasts) (number b) 0 =
      subst (λ (z : Strand). behind a ≤ get_or (raised number ts 0 z.steps leasts) (number b) 0) (sym is) (raised_next 0 strand.steps leasts follow.at a b follow.first follow.second room) in
      let rest = all_more strands (raised number ts 0 s.steps leasts) (number b) in
      omega arith
  all_next (s ∷ strands) leasts (suc n) strand a b there follow room =
      let many = raised_long 0 s.steps leasts in
      all_next strands (raised number ts 0 s.steps leasts) n strand a b there follow (omega arith)

  -- where a least ticket comes from: a history, a step right before in a strand, or none
  pub data AllOrigin (strands : List Strand) (leasts : List ℕ) (k value : ℕ) : Type 0 where
    from_table : value ≤ get_or leasts k 0 → AllOrigin strands leasts k value
    from_none : value ≤ 0 → AllOrigin strands leasts k value
    from_step : (n : ℕ) (strand : Strand) (a b : StrandStep) → slice_get strands n ≡ Some strand → Follow strand.steps a b → number b ≡ k → value ≤ behind a → AllOrigin strands leasts k value

  pub all_origin : (strands : List Strand) (leasts : List ℕ) (k : ℕ) → AllOrigin strands leasts k (get_or (raised_for_all number ts strands leasts) k 0)
  all_origin [] leasts k = from_table (omega arith)
  all_origin (s ∷ strands) leasts k = go (all_origin strands now k)
    where
      now : List ℕ
      now = raised number ts 0 s.steps leasts

      first : {value old : ℕ} → value ≤ old → Origin 0 s.steps leasts k old → AllOrigin (s ∷ strands) leasts k value
      first low (kept high) = from_table (omega arith)
      first low (by_first step at is high) = from_none (omega arith)
      first low (by_step a b follow is high) = from_step 0 s a b refl follow is (omega arith)

      go : {value : ℕ} → AllOrigin strands now k value → AllOrigin (s ∷ strands) leasts k value
      go (from_table low) = first low (origin 0 s.steps leasts k)
      go (from_none low) = from_none low
      go (from_step n strand a b there follow is low) = from_step (suc n) strand a b there follow is low
