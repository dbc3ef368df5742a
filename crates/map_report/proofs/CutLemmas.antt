-- The cuts of a script: how many calls stand before each phase, and in which phase a call is.
use Rattle.std.proofs.Common.{◌≡◌, ℕ, zero, suc, ◌+◌, ◌-◌, ◌<◌, ◌≤◌, Bool, true, false, cond, List, [], ◌∷◌, length, refl, ap, sym, ◌∙◌, subst, inl, inr, arith}
use Rattle.std.specs.Prelude.{nat_lt, filter, slice_index_or}
use Rattle.std.proofs.lemmas.Bool.{cases_lt, lt-ltb, le-ltb}
use Rattle.place_words.specs.Phases.{phase_of, phase_count, calls_before}
use Rattle.map_script.specs.WellFormed.{AreCuts}

-- cuts that rise from a number on up to the number of calls
abbrev pub Rise : ℕ → List ℕ → ℕ → Type 0
Rise from [] all = from ≤ all
Rise from (cut ∷ cuts) all = (from ≤ cut) × Rise cut cuts all

pub cuts_rise : (from : ℕ) (cuts : List ℕ) (all : ℕ) → from ≤ all → AreCuts from all cuts → Rise from cuts all
cuts_rise from [] all low are = low
cuts_rise from (cut ∷ cuts) all low are = (are.0, cuts_rise cut cuts all are.1 are.2)

-- calls_before, where the calls before the first phase are so many
from_at : ℕ → List ℕ → ℕ → ℕ → ℕ
from_at from cuts all zero = from
from_at from cuts all (suc p) = slice_index_or cuts p all

at_is : (cuts : List ℕ) (all p : ℕ) → calls_before cuts all p ≡ from_at 0 cuts all p
unfolding from_at
at_is cuts all zero = refl
at_is cuts all (suc p) = refl

at_next : (from first : ℕ) (cuts : List ℕ) (all p : ℕ) → from_at from (first ∷ cuts) all (suc p) ≡ from_at first cuts all p
unfolding from_at
at_next from first cuts all zero = refl
at_next from first cuts all (suc p) = refl

goes_up : (from : ℕ) (cuts : List ℕ) (all : ℕ) → Rise from cuts all → (p : ℕ) → from_at from cuts all p ≤ from_at from cuts all (suc p)
unfolding from_at
goes_up from [] all are zero = are
goes_up from [] all are (suc p) = omega arith
goes_up from (first ∷ cuts) all are zero = are.0
goes_up from (first ∷ cuts) all are (suc p) = omega (arith, at_next from first cuts all p, at_next from first cuts all (suc p), goes_up first cuts all are.1 p)

not_past : (from : ℕ) (cuts : List ℕ) (all : ℕ) → Rise from cuts all → (p : ℕ) → from_at from cuts all p ≤ all
unfolding from_at
not_past from [] all are zero = are
not_past from [] all are (suc p) = omega arith
not_past from (first ∷ cuts) all are zero = let rest : first ≤ all = not_past first cuts all are.1 0 in omega (arith, are.0, rest)
not_past from (first ∷ cuts) all are (suc p) = omega (arith, at_next from first cuts all p, not_past first cuts all are.1 p)

ends_at : (from : ℕ) (cuts : List ℕ) (all : ℕ) → from_at from cuts all (suc (length cuts)) ≡ all
unfolding from_at
ends_at from [] all = refl
ends_at from (first ∷ cuts) all = at_next from first cuts all (suc (length cuts)) ∙ ends_at first cuts all

-- of the cuts that rise from a number on, none is below that number
none_below : (from : ℕ) (cuts : List ℕ) (all c : ℕ) → Rise from cuts all → c ≤ from → phase_of cuts c ≡ 0
none_below from [] all c are low = refl
none_below from (first ∷ cuts) all c are low =
    ap (λ (b : Bool). length (cond b (first ∷ filter (λ (cut : ℕ). nat_lt cut c) cuts) (filter (λ (cut : ℕ). nat_lt cut c) cuts))) (le-ltb first c (omega (arith, are.0, low)))
    ∙ none_below first cuts all c are.1 (omega (arith, are.0, low))

one_more : (first : ℕ) (cuts : List ℕ) (c : ℕ) → first < c → phase_of (first ∷ cuts) c ≡ suc (phase_of cuts c)
one_more first cuts c low = ap (λ (b : Bool). length (cond b (first ∷ filter (λ (cut : ℕ). nat_lt cut c) cuts) (filter (λ (cut : ℕ). nat_lt cut c) cuts))) (lt-ltb first c low)

none_here : (first : ℕ) (cuts : List ℕ) (all c : ℕ) → Rise first cuts all → c ≤ first → phase_of (first ∷ cuts) c ≡ 0
none_here first cuts all c are high = none_below first (first ∷ cuts) all c (omega arith, are) high

above_from : (from : ℕ) (cuts : List ℕ) (all c : ℕ) → Rise from cuts all → from < c → from_at from cuts all (phase_of cuts c) < c
unfolding from_at
above_from from [] all c are low = low
above_from from (first ∷ cuts) all c are low =
    elim (cases_lt first c) [
      | inl here ↦ subst (λ (q : ℕ). from_at from (first ∷ cuts) all q < c) (sym (one_more first cuts c here))
          (let rest = above_from first cuts all c are.1 here in omega (arith, at_next from first cuts all (phase_of cuts c), rest))
      | inr high ↦ subst (λ (q : ℕ). from_at from (first ∷ cuts) all q < c) (sym (none_here first cuts all c are.1 high)) low
    ]

within_from : (from : ℕ) (cuts : List ℕ) (all c : ℕ) → Rise from cuts all → c ≤ all → c ≤ from_at from cuts all (suc (phase_of cuts c))
unfolding from_at
within_from from [] all c are low = low
within_from from (first ∷ cuts) all c are low =
    elim (cases_lt first c) [
      | inl here ↦ subst (λ (q : ℕ). c ≤ from_at from (first ∷ cuts) all (suc q)) (sym (one_more first cuts c here))
          (let rest = within_from first cuts all c are.1 low in omega (arith, at_next from first cuts all (suc (phase_of cuts c)), rest))
      | inr high ↦ subst (λ (q : ℕ). c ≤ from_at from (first ∷ cuts) all (suc q)) (sym (none_here first cuts all c are.1 high)) high
    ]

few_below : (cuts : List ℕ) (c : ℕ) → phase_of cuts c ≤ length cuts
few_below [] c = omega arith
few_below (first ∷ cuts) c = by (nat_lt first c) (few_below cuts c)
  where
    by : (b : Bool) → length (filter (λ (cut : ℕ). nat_lt cut c) cuts) ≤ length cuts → length (cond b (first ∷ filter (λ (cut : ℕ). nat_lt cut c) cuts) (filter (λ (cut : ℕ). nat_lt cut c) cuts)) ≤ suc (length cuts)
    by true rest = omega (arith, rest)
    by false rest = omega (arith, rest)

-- So, of the cuts of a script

module _ (cuts : List ℕ) (all : ℕ) (are : Rise 0 cuts all) where
  abbrev at : ℕ → ℕ
  at p = calls_before cuts all p

  pub next_phase : (p : ℕ) → at p ≤ at (suc p)
  next_phase p = omega (arith, at_is cuts all p, at_is cuts all (suc p), goes_up 0 cuts all are p)

  pub before_end : (p : ℕ) → at p ≤ all
  before_end p = omega (arith, at_is cuts all p, not_past 0 cuts all are p)

  pub last_end : at (phase_count cuts) ≡ all
  last_end = at_is cuts all (suc (length cuts)) ∙ ends_at 0 cuts all

  pub later_phase : (p d : ℕ) → at p ≤ at (d + p)
  later_phase p zero = let same : 0 + p ≡ p = omega arith in subst (λ (q : ℕ). at p ≤ at q) (sym same) (omega arith)
  later_phase p (suc d) =
      let same : suc d + p ≡ suc (d + p) = omega arith in
      subst (λ (q : ℕ). at p ≤ at q) (sym same) (let rest = later_phase p d in let up = next_phase (d + p) in omega (arith, rest, up))

  pub is_behind : (c : ℕ) → 0 < c → at (phase_of cuts c) < c
  is_behind c some = omega (arith, at_is cuts all (phase_of cuts c), above_from 0 cuts all c are some)

  pub is_within : (c : ℕ) → c ≤ all → c ≤ at (suc (phase_of cuts c))
  is_within c low = omega (arith, at_is cuts all (suc (phase_of cuts c)), within_from 0 cuts all c are low)

  pub is_phase : (c : ℕ) → phase_of cuts c < phase_count cuts
  is_phase c = omega (arith, few_below cuts c)

  -- so a call that stands between the ends of a phase is of that phase
  pub in_phase : (p c : ℕ) → at p < c → c ≤ at (suc p) → phase_of cuts c ≡ p
  in_phase p c low high =
      let q : ℕ = phase_of cuts c in
      let behind = is_behind c (omega (arith, low)) in
      let inside = is_within c (omega (arith, high, before_end (suc p))) in
      elim (cases_lt q p) [
        | inl less ↦ absurd (let d : ℕ = ◌-◌ p (suc q) in let same : d + suc q ≡ p = omega (arith, less) in
            let up = later_phase (suc q) d in let here : at (d + suc q) ≡ at p = ap at same in omega (arith, up, here, inside, low))
        | inr most ↦ elim (cases_lt p q) [
          | inl more ↦ absurd (let d : ℕ = ◌-◌ q (suc p) in let same : d + suc p ≡ q = omega (arith, more) in
              let up = later_phase (suc p) d in let here : at (d + suc p) ≡ at q = ap at same in omega (arith, up, here, behind, high))
          | inr few ↦ omega (arith, most, few)
        ]
      ]
