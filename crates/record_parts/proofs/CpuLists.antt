-- Lists of CPUs that ascend, what a test leaves of CPUs, and the first of some strands that passes a test.
use Rattle.std.proofs.Common.{◌≡◌, ℕ, zero, suc, ◌+◌, ◌<◌, ◌≤◌, Bool, true, false, cond, eqb, ◌&&◌, ◌||◌, List, [], ◌∷◌, Some, refl, ap, sym, ◌∙◌, subst, inl, inr, arith}
use Rattle.std.specs.Prelude.{filter, slice_get}
use Rattle.std.specs.List.{list_any, range_with_len}
use Rattle.std.proofs.lemmas.Bool.{both_ways, cases_eq, eq-eqb, ltb-true, ne_eqb, and_parts}
use Rattle.std.proofs.lemmas.Option.{none-some, same_Some}
use Rattle.place_words.specs.Tickets.{AscendIn}
use Rattle.place_words.proofs.Ascending.{ascend_within}
use Rattle.map_report.specs.Record.{has_cpu}
use Rattle.record_shape.specs.Fits.{AllFit, ascends, ascends_above}

pub and_both : (x y : Bool) → x ≡ true → y ≡ true → (x && y) ≡ true
and_both true y first second = second
and_both false y first second = first

pub or_first : (x y : Bool) → x ≡ true → (x || y) ≡ true
or_first true y first = refl
or_first false y first = absurd cc

pub or_second : (x y : Bool) → y ≡ true → (x || y) ≡ true
or_second true y second = refl
or_second false y second = second

pub or_later : (x y : Bool) → x ≡ false → (x || y) ≡ true → y ≡ true
or_later true y other is = absurd cc
or_later false y other is = is

-- what a test leaves passes it, and what passes it is left
pub left_passes : (test : ℕ → Bool) (cpu : ℕ) (xs : List ℕ) → has_cpu cpu (filter test xs) ≡ true → test cpu ≡ true
left_passes test cpu [] is = absurd cc
left_passes test cpu (x ∷ xs) is = by (left_passes test cpu xs) (test x) refl is
  where
    by : (has_cpu cpu (filter test xs) ≡ true → test cpu ≡ true) → (b : Bool) → test x ≡ b → has_cpu cpu (cond b (x ∷ filter test xs) (filter test xs)) ≡ true → test cpu ≡ true
    by rest false not_so found = rest found
    by rest true so found = elim (cases_eq x cpu) [
      | inl same ↦ ap test (sym same) ∙ so
      | inr other ↦ rest (or_later (eqb x cpu) (has_cpu cpu (filter test xs)) (ne_eqb x cpu other) found)
    ]

pub passing_left : (test : ℕ → Bool) (cpu : ℕ) (xs : List ℕ) → has_cpu cpu xs ≡ true → test cpu ≡ true → has_cpu cpu (filter test xs) ≡ true
passing_left test cpu [] is passes = is
passing_left test cpu (x ∷ xs) is passes = elim (cases_eq x cpu) [
  | inl same ↦
      ap (λ (b : Bool). has_cpu cpu (cond b (x ∷ filter test xs) (filter test xs))) (ap test same ∙ passes)
      ∙ or_first (eqb x cpu) (has_cpu cpu (filter test xs)) (eq-eqb x cpu same)
  | inr other ↦ by (test x) (passing_left test cpu xs (or_later (eqb x cpu) (has_cpu cpu xs) (ne_eqb x cpu other) is) passes)
]
  where
    by : (b : Bool) → has_cpu cpu (filter test xs) ≡ true → has_cpu cpu (cond b (x ∷ filter test xs) (filter test xs)) ≡ true
    by false rest = rest
    by true rest = or_second (eqb x cpu) (has_cpu cpu (filter test xs)) rest

pub in_range : (cpu from n : ℕ) → from ≤ cpu → cpu < from + n → has_cpu cpu (range_with_len from n) ≡ true
in_range cpu from zero least most = absurd (omega (arith, least, most))
in_range cpu from (suc n) least most = elim (cases_eq from cpu) [
  | inl same ↦ or_first (eqb from cpu) (has_cpu cpu (range_with_len (from + 1) n)) (eq-eqb from cpu same)
  | inr other ↦ or_second (eqb from cpu) (has_cpu cpu (range_with_len (from + 1) n)) (in_range cpu (from + 1) n (omega (arith, least, other)) (omega (arith, most)))
]

pub none_lower : (cpu from : ℕ) (xs : List ℕ) (to : ℕ) → AscendIn from xs to → cpu < from → has_cpu cpu xs ≡ true → ⊥
none_lower cpu from [] to ascend less is = absurd cc
none_lower cpu from (x ∷ xs) to ascend less is =
    none_lower cpu (suc x) xs to ascend.1 (omega (arith, less, ascend.0))
    (or_later (eqb x cpu) (has_cpu cpu xs) (ne_eqb x cpu (λ same. absurd (omega (arith, same, less, ascend.0)))) is)

-- a list that ascends is what a test leaves of the numbers below, where just its own pass
pub ascending_is : (test : ℕ → Bool) (from n : ℕ) (xs : List ℕ) → AscendIn from xs (from + n) → ((cpu : ℕ) → has_cpu cpu xs ≡ true → test cpu ≡ true)
    → ((cpu : ℕ) → from ≤ cpu → cpu < from + n → test cpu ≡ true → has_cpu cpu xs ≡ true) → xs ≡ filter test (range_with_len from n)
ascending_is test from zero [] ascend to back = refl
ascending_is test from zero (x ∷ xs) ascend to back = absurd (omega (arith, ascend.0, ascend_within (suc x) xs (from + 0) ascend.1))
ascending_is test from (suc n) xs ascend to back = by (ascending_is test (from + 1) n) (test from) refl xs ascend to back
  where
    more : from + suc n ≡ (from + 1) + n
    more = omega arith

    by : ((ys : List ℕ) → AscendIn (from + 1) ys ((from + 1) + n) → ((cpu : ℕ) → has_cpu cpu ys ≡ true → test cpu ≡ true)
        → ((cpu : ℕ) → from + 1 ≤ cpu → cpu < (from + 1) + n → test cpu ≡ true → has_cpu cpu ys ≡ true) → ys ≡ filter test (range_with_len (from + 1) n))
        → (b : Bool) → test from ≡ b → (ys : List ℕ) → AscendIn from ys (from + suc n) → ((cpu : ℕ) → has_cpu cpu ys ≡ true → test cpu ≡ true)
        → ((cpu : ℕ) → from ≤ cpu → cpu < from + suc n → test cpu ≡ true → has_cpu cpu ys ≡ true)
        → ys ≡ cond b (from ∷ filter test (range_with_len (from + 1) n)) (filter test (range_with_len (from + 1) n))
    by later true so [] up to_it back_it = absurd (let none : false ≡ true = back_it from (omega arith) (omega arith) so in cc)
    by later true so (y ∷ ys) up to_it back_it = elim (cases_eq y from) [
      | inl same ↦
          let rest : ys ≡ filter test (range_with_len (from + 1) n) =
          later ys
          (subst (λ (k : ℕ). AscendIn k ys ((from + 1) + n)) (let next : suc y ≡ from + 1 = omega (arith, same) in next) (subst (AscendIn (suc y) ys) more up.1))
          (λ cpu there. to_it cpu (or_second (eqb y cpu) (has_cpu cpu ys) there))
          (λ cpu least most passes. or_later (eqb y cpu) (has_cpu cpu ys) (ne_eqb y cpu (λ is. absurd (omega (arith, is, same, least)))) (back_it cpu (omega (arith, least)) (omega (arith, most)) passes))
          in
          ap (λ (z : ℕ). z ∷ ys) same ∙ ap (λ (l : List ℕ). from ∷ l) rest
      | inr other ↦
          absurd (none_lower from (suc y) ys (from + suc n) up.1 (omega (arith, up.0)) (or_later (eqb y from) (has_cpu from ys) (ne_eqb y from other) (back_it from (omega arith) (omega arith) so)))
    ]
    by later false not_so [] up to_it back_it =
        later [] (omega arith) to_it (λ cpu least most passes. back_it cpu (omega (arith, least)) (omega (arith, most)) passes)
    by later false not_so (y ∷ ys) up to_it back_it =
        let apart : y ≡ from → ⊥ = λ same. both_ways (test from) not_so (ap test (sym same) ∙ to_it y (or_first (eqb y y) (has_cpu y ys) (eq-eqb y y refl))) in
        let first : from + 1 ≤ y = elim (cases_eq y from) [ inl same ↦ absurd (apart same) | inr other ↦ omega (arith, up.0, other) ] in
        later (y ∷ ys) (first, subst (AscendIn (suc y) ys) more up.1) to_it (λ cpu least most passes. back_it cpu (omega (arith, least)) (omega (arith, most)) passes)

-- the two ways to say that numbers ascend
above_in : (least : ℕ) (xs : List ℕ) (to : ℕ) → least < to → AllFit (λ x. x < to) xs → ascends_above least xs ≡ true → AscendIn (suc least) xs to
above_in least [] to less fit is = omega (arith, less)
above_in least (x ∷ xs) to less fit is =
    let parts = and_parts _ (ascends_above x xs) is in
    (ltb-true least x parts.0, above_in x xs to fit.0 fit.1 parts.1)

pub ascend_in : (xs : List ℕ) (to : ℕ) → AllFit (λ x. x < to) xs → ascends xs ≡ true → AscendIn 0 xs to
ascend_in [] to fit is = omega arith
ascend_in (x ∷ xs) to fit is = (omega arith, above_in x xs to fit.0 fit.1 is)

-- the place of the first that passes a test
pub first_at : {A : Type 0} → (A → Bool) → List A → ℕ
first_at test [] = 0
first_at test (x ∷ xs) = cond (test x) 0 (suc (first_at test xs))

pub record IsFirstAt {A : Type 0} (test : A → Bool) (xs : List A) : Type 0 where
  pub item : A
  pub there : slice_get xs (first_at test xs) ≡ Some item
  pub passes : test item ≡ true

pub first_there : {A : Type 0} (test : A → Bool) (xs : List A) → list_any test xs ≡ true → IsFirstAt test xs
unfolding first_at
first_there test [] some = absurd cc
first_there test (x ∷ xs) some = by (first_there test xs) (test x) refl some
  where
    by : (list_any test xs ≡ true → IsFirstAt test xs) → (b : Bool) → test x ≡ b → (b || list_any test xs) ≡ true → IsFirstAt test (x ∷ xs)
    by later true so found = record { item = x; there = ap (λ (b : Bool). slice_get (x ∷ xs) (cond b 0 (suc (first_at test xs)))) so; passes = so }
    by later false not_so found =
        let rest = later found in
        record { item = rest.item; there = ap (λ (b : Bool). slice_get (x ∷ xs) (cond b 0 (suc (first_at test xs)))) not_so ∙ rest.there; passes = rest.passes }

pub first_least : {A : Type 0} (test : A → Bool) (xs : List A) (k : ℕ) (x : A) → slice_get xs k ≡ Some x → test x ≡ true → first_at test xs ≤ k
unfolding first_at
first_least test [] k x at passes = absurd (none-some x at)
first_least test (y ∷ xs) zero x at passes =
    let here : test y ≡ true = ap test (same_Some y x at) ∙ passes in
    let none : cond (test y) 0 (suc (first_at test xs)) ≡ 0 = ap (λ (b : Bool). cond b 0 (suc (first_at test xs))) here in
    omega (arith, none)
first_least test (y ∷ xs) (suc k) x at passes = by (test y) (first_least test xs k x at passes)
  where
    by : (b : Bool) → first_at test xs ≤ k → cond b 0 (suc (first_at test xs)) ≤ suc k
    by true rest = omega arith
    by false rest = omega (arith, rest)

pub any_at : {A : Type 0} (test : A → Bool) (xs : List A) (k : ℕ) (x : A) → slice_get xs k ≡ Some x → test x ≡ true → list_any test xs ≡ true
any_at test [] k x at passes = absurd (none-some x at)
any_at test (y ∷ xs) zero x at passes = or_first (test y) (list_any test xs) (ap test (same_Some y x at) ∙ passes)
any_at test (y ∷ xs) (suc k) x at passes = or_second (test y) (list_any test xs) (any_at test xs k x at passes)
