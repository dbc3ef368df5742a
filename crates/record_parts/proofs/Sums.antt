-- Sums over lists: a strand has as many steps as its CPUs have entries, in all and then on each lock.
use Rattle.std.proofs.Common.{◌≡◌, ℕ, zero, suc, ◌+◌, ◌<◌, ◌≤◌, Bool, true, false, cond, eqb, ◌&&◌, ◌||◌, List, [], ◌∷◌, ◌++◌, length, get_or, map, take, Some, refl, ap, sym, ◌∙◌, subst, inl, inr, arith}
use Rattle.std.specs.Prelude.{count_by, filter, option_map, slice_get}
use Rattle.std.specs.List.{flat_map, sum_by}
use Rattle.std.proofs.lemmas.Bool.{cases_Bool, cases_eq, eq-eqb, ne_eqb, both_ways}
use Rattle.std.proofs.lemmas.List.Sums.{count_by_more_no, count_by_more_yes, length-filter, sum_by-cons}
use Rattle.std.proofs.lemmas.Option.{none-some, same_Some, slice_get-map}
use Rattle.map_types.specs.declared.kind.DomainId.{DomainId}
use Rattle.map_types.specs.ElementLists.{one}
use Rattle.place_words.specs.declared.history.Entry.{Entry}
use Rattle.place_words.specs.declared.history.LockHistory.{LockHistory}
use Rattle.place_words.specs.declared.history.StrandStep.{StrandStep}
use Rattle.place_words.specs.Locks.{is_same_lock}
use Rattle.place_words.specs.Strands.{places_on}
use Rattle.place_words.specs.Tickets.{AscendIn}
use Rattle.place_words.proofs.LockLemmas.{same_lock, one_lock}
use Rattle.map_report.specs.Record.{has_cpu, places_in}
use Rattle.record_shape.specs.Fits.{AllFit}
use Rattle.record_shape.specs.WellShaped.{lock_of}
use Rattle.record_shape.proofs.ByPlaces.{fit_at}
use Rattle.record_shape.proofs.HistoriesOf.{Differ}
use Rattle.record_parts.specs.StrandTables.{cell, is_own}
use Rattle.record_parts.proofs.CpuLists.{none_lower}

abbrev pub total : {A : Type 0} → (A → ℕ) → List A → ℕ
total f [] = 0
total f (x ∷ xs) = f x + total f xs

pub total_is : {A : Type 0} (f : A → ℕ) (xs : List A) → sum_by f xs ≡ total f xs
total_is f [] = refl
total_is f (x ∷ xs) = sum_by-cons f x xs ∙ ap (λ (n : ℕ). f x + n) (total_is f xs)

pub total_same : {A : Type 0} (P : A → Type 0) (f g : A → ℕ) (xs : List A) → AllFit P xs → ((x : A) → P x → f x ≡ g x) → total f xs ≡ total g xs
total_same P f g [] fit same = refl
total_same P f g (x ∷ xs) fit same = omega (arith, same x fit.0, total_same P f g xs fit.1 same)

pub total_none : {A : Type 0} (xs : List A) → total (λ x. 0) xs ≡ 0
total_none [] = refl
total_none (x ∷ xs) = omega (arith, total_none xs)

total_add : {A : Type 0} (f g : A → ℕ) (xs : List A) → total (λ x. f x + g x) xs ≡ total f xs + total g xs
total_add f g [] = omega arith
total_add f g (x ∷ xs) = omega (arith, total_add f g xs)

pub total_swap : {A B : Type 0} (f : A → B → ℕ) (xs : List A) (ys : List B) → total (λ x. total (f x) ys) xs ≡ total (λ y. total (λ x. f x y) xs) ys
total_swap f [] ys = sym (total_none ys)
total_swap f (x ∷ xs) ys = omega (arith, total_swap f xs ys, total_add (f x) (λ y. total (λ z. f z y) xs) ys)

total_both : {A : Type 0} (f : A → ℕ) (xs ys : List A) → total f (xs ++ ys) ≡ total f xs + total f ys
total_both f [] ys = omega arith
total_both f (x ∷ xs) ys = omega (arith, total_both f xs ys)

pub total_flat : {A B : Type 0} (f : B → ℕ) (part : A → List B) (xs : List A) → total f (flat_map part xs) ≡ total (λ x. total f (part x)) xs
total_flat f part [] = refl
total_flat f part (x ∷ xs) = omega (arith, total_both f (part x) (flat_map part xs), total_flat f part xs)

pub total_le : {A : Type 0} (f g : A → ℕ) (xs : List A) → AllFit (λ x. f x ≤ g x) xs → total f xs ≤ total g xs
total_le f g [] fit = omega arith
total_le f g (x ∷ xs) fit = omega (arith, fit.0, total_le f g xs fit.1)

-- sums of which each part is at most the other's are one only where each part is
pub each_same : {A : Type 0} (f g : A → ℕ) (xs : List A) → AllFit (λ x. f x ≤ g x) xs → total f xs ≡ total g xs → AllFit (λ x. f x ≡ g x) xs
each_same f g [] fit same = tt
each_same f g (x ∷ xs) fit same =
    let rest = total_le f g xs fit.1 in
    (omega (arith, fit.0, rest, same), each_same f g xs fit.1 (omega (arith, fit.0, rest, same)))

pub counted : {A : Type 0} (test : A → Bool) (xs : List A) → count_by test xs ≡ total (λ x. one (test x)) xs
counted test xs = sym (length-filter test xs) ∙ left xs
  where
    left : (ys : List _) → length (filter test ys) ≡ total (λ x. one (test x)) ys
    left [] = refl
    left (y ∷ ys) = by (test y) (left ys)
      where
        by : (b : Bool) → length (filter test ys) ≡ total (λ x. one (test x)) ys → length (cond b (y ∷ filter test ys) (filter test ys)) ≡ one b + total (λ x. one (test x)) ys
        by true rest = omega (arith, rest)
        by false rest = omega (arith, rest)

-- one item more that is counted
pub counted_more : {A : Type 0} (test : A → Bool) (xs : List A) (i : ℕ) (x : A) (first was now : ℕ) → i < length xs → get_or xs i x ≡ x → was ≡ first + count_by test (take i xs)
    → now ≡ was + cond (test x) 1 0 → now ≡ first + count_by test (take (i + 1) xs)
counted_more test xs i x first was now within at before here = elim (cases_Bool (test x)) [
  | inl passed ↦ let more : ◌≡◌ {A = ℕ} (cond (test x) 1 0) 1 = ap (λ (b : Bool). cond b 1 0) passed in omega (arith, before, here, more, count_by_more_yes test xs i x within (ap test at ∙ passed))
  | inr failed ↦ let more : ◌≡◌ {A = ℕ} (cond (test x) 1 0) 0 = ap (λ (b : Bool). cond b 1 0) failed in omega (arith, before, here, more, count_by_more_no test xs i x within (ap test at ∙ failed))
]

-- Steps: each is on one lock

no_other : (lock : DomainId) (histories : List LockHistory) → AllFit (λ other. is_same_lock lock other ≡ false) (map lock_of histories) → total (λ (h : LockHistory). one (is_same_lock lock h.lock)) histories ≡ 0
no_other lock [] fit = refl
no_other lock (h ∷ histories) fit = let here : one (is_same_lock lock h.lock) ≡ 0 = ap one fit.0 in omega (arith, here, no_other lock histories fit.1)

turned : (lock other : DomainId) → is_same_lock lock other ≡ false → is_same_lock other lock ≡ false
turned lock other apart = elim (cases_Bool (is_same_lock other lock)) [
  | inl same ↦ absurd (both_ways (is_same_lock lock other) apart (ap (λ (l : DomainId). is_same_lock lock l) (one_lock other lock same) ∙ same_lock lock))
  | inr not_so ↦ not_so
]

pub on_one : (histories : List LockHistory) → Differ (map lock_of histories) → (k : ℕ) (history : LockHistory) → slice_get histories k ≡ Some history
    → total (λ (h : LockHistory). one (is_same_lock history.lock h.lock)) histories ≡ 1
on_one [] differ k history at = absurd (none-some history at)
on_one (h ∷ histories) differ zero history at =
    let same : h ≡ history = same_Some h history at in
    subst (λ (now : LockHistory). total (λ (h : LockHistory). one (is_same_lock now.lock h.lock)) (h ∷ histories) ≡ 1) same
    (let here : one (is_same_lock h.lock h.lock) ≡ 1 = ap one (same_lock h.lock) in omega (arith, here, no_other h.lock histories differ.0))
on_one (h ∷ histories) differ (suc k) history at =
    let there = fit_at (λ other. is_same_lock h.lock other ≡ false) (map lock_of histories) differ.0 k history.lock (slice_get-map lock_of histories k ∙ ap (option_map lock_of) at) in
    let here : one (is_same_lock history.lock h.lock) ≡ 0 = ap one (turned h.lock history.lock there) in
    omega (arith, here, on_one histories differ.1 k history at)

pub steps_counted : (histories : List LockHistory) (steps : List StrandStep) → AllFit (λ step. total (λ (h : LockHistory). one (is_same_lock step.lock h.lock)) histories ≡ 1) steps
    → total (λ (h : LockHistory). length (places_on h.lock steps)) histories ≡ length steps
steps_counted histories [] fit = total_none histories
steps_counted histories (step ∷ steps) fit =
    omega (
      arith,
      total_same (λ h. Unit {0}) (λ (h : LockHistory). length (places_on h.lock (step ∷ steps))) (λ (h : LockHistory). one (is_same_lock step.lock h.lock) + length (places_on h.lock steps)) histories (all_fit histories) (λ h _. by h (is_same_lock step.lock h.lock)),
      total_add (λ (h : LockHistory). one (is_same_lock step.lock h.lock)) (λ (h : LockHistory). length (places_on h.lock steps)) histories,
      fit.0,
      steps_counted histories steps fit.1,
    )
  where
    all_fit : (hs : List LockHistory) → AllFit (λ h. Unit {0}) hs
    all_fit [] = tt
    all_fit (h ∷ hs) = (tt, all_fit hs)

    by : (h : LockHistory) (b : Bool) → length (cond b (step.index ∷ places_on h.lock steps) (places_on h.lock steps)) ≡ one b + length (places_on h.lock steps)
    by h true = omega arith
    by h false = omega arith

-- Entries

pub places_counted : (cuts : List ℕ) (phase : ℕ) (cpus : List ℕ) (place : ℕ) (entries : List Entry) → length (places_in cuts phase cpus place entries) ≡ total (λ entry. one (is_own cuts phase cpus entry)) entries
places_counted cuts phase cpus place [] = refl
places_counted cuts phase cpus place (entry ∷ entries) = by (is_own cuts phase cpus entry) (places_counted cuts phase cpus (suc place) entries)
  where
    by : (b : Bool) → length (places_in cuts phase cpus (suc place) entries) ≡ total (λ entry. one (is_own cuts phase cpus entry)) entries
        → length (cond b (place ∷ places_in cuts phase cpus (suc place) entries) (places_in cuts phase cpus (suc place) entries)) ≡ one b + total (λ entry. one (is_own cuts phase cpus entry)) entries
    by true rest = omega (arith, rest)
    by false rest = omega (arith, rest)

-- of CPUs that ascend an entry is of one at most
pub one_cpu : (q d p from : ℕ) (cpus : List ℕ) → d < 16 → AllFit (λ cpu. cpu < 16) cpus → AscendIn from cpus 16
    → total (λ cpu. one (eqb (cell q d) (cell p cpu))) cpus ≡ one (eqb q p && has_cpu d cpus)
one_cpu q d p from [] few fit ascend = by (eqb q p)
  where
    by : (b : Bool) → 0 ≡ one (b && false)
    by true = refl
    by false = refl
one_cpu q d p from (c ∷ cpus) few fit ascend = elim (cases_eq q p) [
  | inr other ↦
      let apart : eqb (cell q d) (cell p c) ≡ false = ne_eqb (cell q d) (cell p c) (λ same. absurd (other (omega (arith, same, few, fit.0)))) in
      let rest = one_cpu q d p (suc c) cpus few fit.1 ascend.1 in
      let none : (b : Bool) → one (eqb q p && b) ≡ 0 = λ b. ap (λ (x : Bool). one (x && b)) (ne_eqb q p other) in
      let here : one (eqb (cell q d) (cell p c)) ≡ 0 = ap one apart in
      omega (arith, here, rest, none (has_cpu d cpus), none (eqb c d || has_cpu d cpus))
  | inl same ↦ elim (cases_eq c d) [
    | inr other ↦
        let apart : eqb (cell q d) (cell p c) ≡ false = ne_eqb (cell q d) (cell p c) (λ is. absurd (other (omega (arith, is, same)))) in
        let here : one (eqb (cell q d) (cell p c)) ≡ 0 = ap one apart in
        let rest = one_cpu q d p (suc c) cpus few fit.1 ascend.1 in
        let later : one (eqb q p && (eqb c d || has_cpu d cpus)) ≡ one (eqb q p && has_cpu d cpus) = ap (λ (x : Bool). one (eqb q p && (x || has_cpu d cpus))) (ne_eqb c d other) in
        omega (arith, here, rest, later)
    | inl is ↦
        let found : eqb (cell q d) (cell p c) ≡ true = eq-eqb (cell q d) (cell p c) (omega (arith, is, same)) in
        let here : one (eqb (cell q d) (cell p c)) ≡ 1 = ap one found in
        let rest = one_cpu q d p (suc c) cpus few fit.1 ascend.1 in
        let none : has_cpu d cpus ≡ false = elim (cases_Bool (has_cpu d cpus)) [
          | inl there ↦ absurd (none_lower d (suc c) cpus 16 ascend.1 (omega (arith, is)) there)
          | inr not_so ↦ not_so
        ] in
        let test : eqb q p ≡ true = eq-eqb q p same in
        let zeroed : one (eqb q p && has_cpu d cpus) ≡ 0 = (λ i. one (test i && none i)) in
        let whole : one (eqb q p && (eqb c d || has_cpu d cpus)) ≡ 1 = (λ i. one (test i && (eq-eqb c d is i || has_cpu d cpus))) in
        omega (arith, here, rest, zeroed, whole)
  ]
]
