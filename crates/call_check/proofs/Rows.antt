-- The steps of a call are a row in its strand.
use Rattle.std.proofs.Common.{◌≡◌, ◌≢◌, ℕ, zero, suc, ◌-◌, ◌<◌, ◌≤◌, Bool, true, false, cond, eqb, List, [], ◌∷◌, length, get_or, take, drop, refl, ap, sym, ◌∙◌, subst, inl, inr, arith}
use Rattle.std.specs.Prelude.{filter}
use Rattle.std.proofs.lemmas.Bool.{both_ways, cases_eq, cases_lt, eq-eqb, eqb-true, ne_eqb}
use Rattle.place_words.specs.declared.history.LockHistory.{LockHistory}
use Rattle.place_words.specs.declared.history.StrandStep.{StrandStep}
use Rattle.call_check.specs.RightCalls.{call_named, is_of_call, steps_of_call}
use Rattle.call_check.specs.Steps.{IsBehind, is_late_from}
use Rattle.call_check.proofs.ByTicket.{taken_passing}
use Rattle.call_check.proofs.Late.{none_behind}

none_dropped : {A : Type 0} (xs : List A) → drop 0 xs ≡ xs
none_dropped [] = refl
none_dropped (x ∷ xs) = refl

-- those that pass a test stand in a row
filter_row : {A : Type 0} (p : A → Bool) (xs : List A) (from to : ℕ) → from ≤ to → to ≤ length xs → ((k : ℕ) (d : A) → k < from → p (get_or xs k d) ≡ false)
    → ((k : ℕ) (d : A) → from ≤ k → k < to → p (get_or xs k d) ≡ true) → ((k : ℕ) (d : A) → to ≤ k → k < length xs → p (get_or xs k d) ≡ false)
    → filter p xs ≡ take (to - from) (drop from xs)
filter_row p xs zero to up within front row back =
    let same : to - 0 ≡ to = omega arith in
    taken_passing p xs to within (λ k d less. row k d (omega arith) less) back
    ∙ (ap (take to) (sym (none_dropped xs)) ∙ ap (λ (n : ℕ). take n (drop 0 xs)) (sym same))
filter_row p [] (suc from) to up within front row back = absurd (omega (arith, up, within))
filter_row p (x ∷ xs) (suc from) zero up within front row back = absurd (omega (arith, up))
filter_row p (x ∷ xs) (suc from) (suc to) up within front row back =
    let same : suc to - suc from ≡ to - from = omega arith in
    ap (λ (b : Bool). cond b (x ∷ filter p xs) (filter p xs)) (front 0 x (omega arith))
    ∙ (filter_row p xs from to (omega (arith, up)) (omega (arith, within)) (λ k d less. front (suc k) d (omega (arith, less)))
    (λ k d least less. row (suc k) d (omega (arith, least)) (omega (arith, less))) (λ k d least less. back (suc k) d (omega (arith, least)) (omega (arith, less)))
    ∙ ap (λ (n : ℕ). take n (drop from xs)) (sym same))

-- From a cursor on the steps up to a place are of a call, and that at this place isn't.
pub record IsRow (histories : List LockHistory) (number : ℕ) (steps : List StrandStep) (from to : ℕ) : Type 0 where
  pub up : from ≤ to
  pub within : to ≤ length steps
  pub row : (k : ℕ) (d : StrandStep) → from ≤ k → k < to → is_of_call histories number (get_or steps k d) ≡ true
  pub end : (d : StrandStep) → to < length steps → is_of_call histories number (get_or steps to d) ≡ false

module _ (histories : List LockHistory) (number : ℕ) (steps : List StrandStep) (from to : ℕ) (behind : IsBehind histories number steps from) (is : IsRow histories number steps from to)
    (none : is_late_from histories number 0 steps ≡ false) where
  abbrev of : ℕ → StrandStep → ℕ
  of k d = call_named histories (get_or steps k d)

  none_more : (k : ℕ) (d : StrandStep) → to ≤ k → k < length steps → of k d ≢ number
  none_more k d least less same = elim (cases_eq to k) [
    | inl here ↦
        both_ways (eqb (of k d) number) (subst (λ (j : ℕ). eqb (of j d) number ≡ false) here (is.end d (omega (arith, here, less)))) (eq-eqb (of k d) number same)
    | inr other ↦
        let before : to < k = omega (arith, other, least) in
        let low : number ≤ of to d = behind.behind to d is.up (omega (arith, before, less)) in
        let apart : of to d ≡ number → ⊥ = λ one. both_ways (eqb (of to d) number) (is.end d (omega (arith, before, less))) (eq-eqb (of to d) number one) in
        none_behind histories number 0 steps none to k d before less (omega (arith, low, apart)) same
  ]

  pub row_is : steps_of_call histories number steps ≡ take (to - from) (drop from steps)
  row_is = filter_row (is_of_call histories number) steps from to is.up is.within
      (λ k d less. ne_eqb (of k d) number (λ same. absurd (let low = behind.before k d less in omega (arith, low, same))))
      is.row (λ k d least less. ne_eqb (of k d) number (none_more k d least less))

  pub behind_row : IsBehind histories (suc number) steps to
  behind_row = record {
    within = is.within;
    before = λ k d less. elim (cases_lt k from) [
      | inl below ↦ let low = behind.before k d below in omega (arith, low)
      | inr past ↦ let same = eqb-true (of k d) number (is.row k d past less) in omega (arith, same)
    ];
    behind = λ k d least less.
        let low = behind.behind k d (omega (arith, least, is.up)) less in
        let apart = none_more k d least less in
        omega (arith, low, apart);
  }

-- a strand that has no step of the call
pub still_behind : (histories : List LockHistory) (number : ℕ) (steps : List StrandStep) (cursor : ℕ) → IsBehind histories number steps cursor
    → ((k : ℕ) (d : StrandStep) → k < length steps → call_named histories (get_or steps k d) ≢ number) → IsBehind histories (suc number) steps cursor
still_behind histories number steps cursor is none = record {
  within = is.within;
  before = λ k d less. let low = is.before k d less in omega (arith, low);
  behind = λ k d least less.
      let low = is.behind k d least less in
      let apart = none k d less in
      omega (arith, low, apart);
}
