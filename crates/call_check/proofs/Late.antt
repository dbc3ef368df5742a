-- Steps that stand behind those of later calls.
use Rattle.std.proofs.Common.{◌≡◌, ◌≢◌, ◌⊎◌, ℕ, zero, suc, ◌<◌, ◌≤◌, Bool, true, false, cond, eqb, ltb, List, [], ◌∷◌, ◌++◌, ◌+◌, length, get_or, drop, refl, ap, sym, ◌∙◌, inl, inr, arith}
use Rattle.std.specs.Prelude.{All, ◌&&◌, ◌||◌}
use Rattle.std.proofs.Math.Bool.{or_assoc}
use Rattle.std.proofs.lemmas.List.{drop_more}
use Rattle.std.proofs.lemmas.Bool.{and_parts, both_ways, cases_lt, eq-eqb, eqb-true, le-ltb, lt-ltb, ltb-true, or_parts}
use Rattle.place_words.specs.declared.history.LockHistory.{LockHistory}
use Rattle.place_words.specs.declared.history.StrandStep.{StrandStep}
use Rattle.call_check.proofs.CpuLists.{and_both, or_later}
use Rattle.call_check.specs.RightCalls.{call_named}
use Rattle.call_check.specs.Steps.{greater, is_late_from}

first_low : (n m : ℕ) → n ≤ greater n m
first_low n m = elim (cases_lt n m) [
  | inl less ↦ let is : greater n m ≡ m = ap (λ (b : Bool). cond b m n) (lt-ltb n m less) in omega (arith, is, less)
  | inr most ↦ let is : greater n m ≡ n = ap (λ (b : Bool). cond b m n) (le-ltb n m most) in omega (arith, is)
]

second_low : (n m : ℕ) → m ≤ greater n m
second_low n m = elim (cases_lt n m) [
  | inl less ↦ let is : greater n m ≡ m = ap (λ (b : Bool). cond b m n) (lt-ltb n m less) in omega (arith, is)
  | inr most ↦ let is : greater n m ≡ n = ap (λ (b : Bool). cond b m n) (le-ltb n m most) in omega (arith, is, most)
]

one_of : (x n m : ℕ) → x < greater n m → (x < n) ⊎ (x < m)
one_of x n m less = elim (cases_lt n m) [
  | inl below ↦ let is : greater n m ≡ m = ap (λ (b : Bool). cond b m n) (lt-ltb n m below) in inr (omega (arith, is, less))
  | inr most ↦ let is : greater n m ≡ n = ap (λ (b : Bool). cond b m n) (le-ltb n m most) in inl (omega (arith, is, less))
]

module _ (histories : List LockHistory) (number : ℕ) where
  abbrev of : StrandStep → ℕ
  of step = call_named histories step

  not_here : (greatest called : ℕ) → (eqb called number && ltb number greatest) ≡ false → number < greatest → called ≢ number
  not_here greatest called none less same =
      both_ways (eqb called number && ltb number greatest) none (and_both (eqb called number) (ltb number greatest) (eq-eqb called number same) (lt-ltb number greatest less))

  -- none is of the call where a later one came before
  none_of : (greatest : ℕ) (steps : List StrandStep) → is_late_from histories number greatest steps ≡ false → number < greatest
      → (k : ℕ) (d : StrandStep) → k < length steps → of (get_or steps k d) ≢ number
  none_of greatest [] none less k d within = absurd (omega (arith, within))
  none_of greatest (step ∷ steps) none less zero d within =
      not_here greatest (of step) (or_parts _ (is_late_from histories number (greater greatest (of step)) steps) none).0 less
  none_of greatest (step ∷ steps) none less (suc k) d within =
      none_of (greater greatest (of step)) steps (or_parts _ (is_late_from histories number (greater greatest (of step)) steps) none).1
      (let low = first_low greatest (of step) in omega (arith, low, less)) k d (omega (arith, within))

  pub none_behind : (greatest : ℕ) (steps : List StrandStep) → is_late_from histories number greatest steps ≡ false
      → (i j : ℕ) (d : StrandStep) → i < j → j < length steps → number < of (get_or steps i d) → of (get_or steps j d) ≢ number
  none_behind greatest [] none i j d before within less = absurd (omega (arith, within))
  none_behind greatest (step ∷ steps) none i zero d before within less = absurd (omega (arith, before))
  none_behind greatest (step ∷ steps) none zero (suc j) d before within less =
      none_of (greater greatest (of step)) steps (or_parts _ (is_late_from histories number (greater greatest (of step)) steps) none).1
      (let low = second_low greatest (of step) in omega (arith, low, less)) j d (omega (arith, within))
  none_behind greatest (step ∷ steps) none (suc i) (suc j) d before within less =
      none_behind (greater greatest (of step)) steps (or_parts _ (is_late_from histories number (greater greatest (of step)) steps) none).1 i j d (omega (arith, before)) (omega (arith, within)) less

  pub in_order : (greatest : ℕ) (before later : List StrandStep) (step : StrandStep) → is_late_from histories number greatest (before ++ step ∷ later) ≡ false
      → number < of step → All (λ (other : StrandStep). of other ≢ number) later
  in_order greatest [] later step none less =
      λ k d within. none_of (greater greatest (of step)) later (or_parts _ (is_late_from histories number (greater greatest (of step)) later) none).1
      (let low = second_low greatest (of step) in omega (arith, low, less)) k d within
  in_order greatest (first ∷ before) later step none less =
      in_order (greater greatest (of first)) before later step (or_parts _ (is_late_from histories number (greater greatest (of first)) (before ++ step ∷ later)) none).1 less

  -- a step of the call that stands behind one of a later call
  pub record Overtaken (steps : List StrandStep) : Type 0 where
    pub before : List StrandStep
    pub later : List StrandStep
    pub step : StrandStep
    pub is : steps ≡ before ++ step ∷ later
    pub less : number < of step
    pub place : ℕ
    pub within : place < length later
    pub its : of (get_or later place step) ≡ number

  pub record HasOne (steps : List StrandStep) : Type 0 where
    pub place : ℕ
    pub within : place < length steps
    pub its : (d : StrandStep) → of (get_or steps place d) ≡ number

  overtaken : (greatest : ℕ) (steps : List StrandStep) → is_late_from histories number greatest steps ≡ true → ((number < greatest) × HasOne steps) ⊎ Overtaken steps
  overtaken greatest [] late = absurd (both_ways false refl late)
  overtaken greatest (step ∷ steps) late =
      by (eqb (of step) number && ltb number greatest) refl (overtaken (greater greatest (of step)) steps)
    where
      by : (b : Bool) → (eqb (of step) number && ltb number greatest) ≡ b
          → (is_late_from histories number (greater greatest (of step)) steps ≡ true → ((number < greater greatest (of step)) × HasOne steps) ⊎ Overtaken steps)
          → ((number < greatest) × HasOne (step ∷ steps)) ⊎ Overtaken (step ∷ steps)
      by true is rest =
          let parts = and_parts (eqb (of step) number) (ltb number greatest) is in
          inl (ltb-true number greatest parts.1, record { place = 0; within = omega arith; its = λ d. eqb-true (of step) number parts.0 })
      by false is rest = elim (rest (or_later (eqb (of step) number && ltb number greatest) _ is late)) [
        | inl found ↦ elim (one_of number greatest (of step) found.0) [
          | inl below ↦ inl (below, record { place = suc found.1.place; within = omega (arith, found.1.within); its = λ d. found.1.its d })
          | inr here ↦ inr (record { before = []; later = steps; step = step; is = refl; less = here; place = found.1.place; within = found.1.within; its = found.1.its step })
        ]
        | inr found ↦
            inr (record { before = step ∷ found.before; later = found.later; step = found.step; is = ap (λ (l : List StrandStep). step ∷ l) found.is; less = found.less; place = found.place; within = found.within; its = found.its })
      ]

  pub late_overtaken : (steps : List StrandStep) → is_late_from histories number 0 steps ≡ true → Overtaken steps
  late_overtaken steps late = elim (overtaken 0 steps late) [
    | inl found ↦ absurd (omega (arith, found.0))
    | inr found ↦ found
  ]

  pub late_has : (greatest : ℕ) (steps : List StrandStep) → is_late_from histories number greatest steps ≡ true → HasOne steps
  late_has greatest [] late = absurd (both_ways false refl late)
  late_has greatest (step ∷ steps) late = by (eqb (of step) number && ltb number greatest) refl (late_has (greater greatest (of step)) steps)
    where
      by : (b : Bool) → (eqb (of step) number && ltb number greatest) ≡ b → (is_late_from histories number (greater greatest (of step)) steps ≡ true → HasOne steps) → HasOne (step ∷ steps)
      by true is rest = record { place = 0; within = omega arith; its = λ d. eqb-true (of step) number (and_parts (eqb (of step) number) (ltb number greatest) is).0 }
      by false is rest =
          let found = rest (or_later (eqb (of step) number && ltb number greatest) _ is late) in
          record { place = suc found.place; within = omega (arith, found.within); its = λ d. found.its d }

-- of one step more
pub late_more : (histories : List LockHistory) (number greatest : ℕ) (steps : List StrandStep) (k : ℕ) (step : StrandStep) → k < length steps → get_or steps k step ≡ step
    → (called : ℕ) → called ≡ call_named histories step → (next : ℕ) → next ≡ greater greatest called
    → (was now : Bool) → now ≡ (was || (eqb called number && ltb number greatest))
    → (now || is_late_from histories number next (drop (k + 1) steps)) ≡ (was || is_late_from histories number greatest (drop k steps))
late_more histories number greatest steps k step less here called called_is next next_is was now now_is =
    let rest : List StrandStep = drop (k + 1) steps in
    let late : ℕ → Bool = λ n. is_late_from histories number n rest in
    let left : drop k steps ≡ step ∷ rest = drop_more steps k step less ∙ ap (λ (s : StrandStep). s ∷ rest) here in
    let at : Bool = eqb called number && ltb number greatest in
    ap (λ (b : Bool). b || late next) now_is
    ∙ (ap (λ (n : ℕ). was || at || late n) next_is
    ∙ (or_assoc was at (late (greater greatest called))
    ∙ (ap (λ (n : ℕ). was || ((eqb n number && ltb number greatest) || late (greater greatest n))) called_is
    ∙ sym (ap (λ (l : List StrandStep). was || is_late_from histories number greatest l) left))))
