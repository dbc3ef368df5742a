-- What a test leaves of CPUs, and the first of some strands that passes a test.
use Rattle.std.proofs.Common.{◌≡◌, ℕ, zero, suc, ◌+◌, ◌<◌, ◌≤◌, Bool, true, false, cond, eqb, ◌&&◌, ◌||◌, List, [], ◌∷◌, Some, refl, ap, sym, ◌∙◌, inl, inr, arith}
use Rattle.std.specs.Prelude.{filter, slice_get}
use Rattle.std.specs.List.{list_any, range_with_len}
use Rattle.std.proofs.lemmas.Bool.{cases_eq, eq-eqb, ne_eqb}
use Rattle.std.proofs.lemmas.Option.{none-some, same_Some}
use Rattle.map_report.specs.Record.{has_cpu}

pub and_both : (x y : Bool) → x ≡ true → y ≡ true → (x && y) ≡ true
and_both true y first second = second
and_both false y first second = first

pub or_first : (x y : Bool) → x ≡ true → (x || y) ≡ true
or_first true y first = refl
or_first false y first = absurd cc

pub or_second : (x y : Bool) → y ≡ true → (x || y) ≡ true
or_second true y second = refl
or_second false y second = second

pub or_later : (x y : Bool) → x ≡ false → (x || y) ≡ true → y ≡ true
or_later true y other is = absurd cc
or_later false y other is = is

-- what a test leaves passes it, and what passes it is left
pub left_passes : (test : ℕ → Bool) (cpu : ℕ) (xs : List ℕ) → has_cpu cpu (filter test xs) ≡ true → test cpu ≡ true
left_passes test cpu [] is = absurd cc
left_passes test cpu (x ∷ xs) is = by (left_passes test cpu xs) (test x) refl is
  where
    by : (has_cpu cpu (filter test xs) ≡ true → test cpu ≡ true) → (b : Bool) → test x ≡ b → has_cpu cpu (cond b (x ∷ filter test xs) (filter test xs)) ≡ true → test cpu ≡ true
    by rest false not_so found = rest found
    by rest true so found = elim (cases_eq x cpu) [
      | inl same ↦ ap test (sym same) ∙ so
      | inr other ↦ rest (or_later (eqb x cpu) (has_cpu cpu (filter test xs)) (ne_eqb x cpu other) found)
    ]

pub passing_left : (test : ℕ → Bool) (cpu : ℕ) (xs : List ℕ) → has_cpu cpu xs ≡ true → test cpu ≡ true → has_cpu cpu (filter test xs) ≡ true
passing_left test cpu [] is passes = is
passing_left test cpu (x ∷ xs) is passes = elim (cases_eq x cpu) [
  | inl same ↦
      ap (λ (b : Bool). has_cpu cpu (cond b (x ∷ filter test xs) (filter test xs))) (ap test same ∙ passes)
      ∙ or_first (eqb x cpu) (has_cpu cpu (filter test xs)) (eq-eqb x cpu same)
  | inr other ↦ by (test x) (passing_left test cpu xs (or_later (eqb x cpu) (has_cpu cpu xs) (ne_eqb x cpu other) is) passes)
]
  where
    by : (b : Bool) → has_cpu cpu (filter test xs) ≡ true → has_cpu cpu (cond b (x ∷ filter test xs) (filter test xs)) ≡ true
    by false rest = rest
    by true rest = or_second (eqb x cpu) (has_cpu cpu (filter test xs)) rest

pub in_range : (cpu from n : ℕ) → from ≤ cpu → cpu < from + n → has_cpu cpu (range_with_len from n) ≡ true
in_range cpu from zero least most = absurd (omega (arith, least, most))
in_range cpu from (suc n) least most = elim (cases_eq from cpu) [
  | inl same ↦ or_first (eqb from cpu) (has_cpu cpu (range_with_len (from + 1) n)) (eq-eqb from cpu same)
  | inr other ↦ or_second (eqb from cpu) (has_cpu cpu (range_with_len (from + 1) n)) (in_range cpu (from + 1) n (omega (arith, least, other)) (omega (arith, most)))
]

-- the place of the first that passes a test
pub first_at : {A : Type 0} → (A → Bool) → List A → ℕ
first_at test [] = 0
first_at test (x ∷ xs) = cond (test x) 0 (suc (first_at test xs))

pub record IsFirstAt {A : Type 0} (test : A → Bool) (xs : List A) : Type 0 where
  pub item : A
  pub there : slice_get xs (first_at test xs) ≡ Some item
  pub passes : test item ≡ true

pub first_there : {A : Type 0} (test : A → Bool) (xs : List A) → list_any test xs ≡ true → IsFirstAt test xs
unfolding first_at
first_there test [] some = absurd cc
first_there test (x ∷ xs) some = by (first_there test xs) (test x) refl some
  where
    by : (list_any test xs ≡ true → IsFirstAt test xs) → (b : Bool) → test x ≡ b → (b || list_any test xs) ≡ true → IsFirstAt test (x ∷ xs)
    by later true so found = record { item = x; there = ap (λ (b : Bool). slice_get (x ∷ xs) (cond b 0 (suc (first_at test xs)))) so; passes = so }
    by later false not_so found =
        let rest = later found in
        record { item = rest.item; there = ap (λ (b : Bool). slice_get (x ∷ xs) (cond b 0 (suc (first_at test xs)))) not_so ∙ rest.there; passes = rest.passes }

pub any_at : {A : Type 0} (test : A → Bool) (xs : List A) (k : ℕ) (x : A) → slice_get xs k ≡ Some x → test x ≡ true → list_any test xs ≡ true
any_at test [] k x at passes = absurd (none-some x at)
any_at test (y ∷ xs) zero x at passes = or_first (test y) (list_any test xs) (ap test (same_Some y x at) ∙ passes)
any_at test (y ∷ xs) (suc k) x at passes = or_second (test y) (list_any test xs) (any_at test xs k x at passes)
