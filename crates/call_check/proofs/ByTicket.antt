-- Items that rise by a number: those with each number from 0 on are those below a number, and these stand in front.
use Rattle.std.proofs.Common.{◌≡◌, ℕ, zero, suc, ◌+◌, ◌<◌, ◌≤◌, Bool, true, false, cond, eqb, ltb, List, [], ◌∷◌, ◌++◌, length, get_or, take, refl, ap, sym, ◌∙◌, inl, inr, arith}
use Rattle.std.specs.Prelude.{filter}
use Rattle.std.specs.List.{flat_map, range_with_len}
use Rattle.std.specs.List.Sorted.{IsNonDecreasingBy, IsPartitionedBy}
use Rattle.std.proofs.lemmas.Bool.{cases_eq, cases_lt, eq-eqb, le-ltb, lt-ltb, ltb-true, ne_eqb}
use Rattle.std.proofs.lemmas.Grind.{flat_map-append}

pub range_end : (from n : ℕ) → range_with_len from (suc n) ≡ range_with_len from n ++ (from + n) ∷ []
range_end from zero = ap (λ (k : ℕ). k ∷ []) (omega arith)
range_end from (suc n) =
    let same : from + 1 + n ≡ from + suc n = omega arith in
    ap (λ (ks : List ℕ). from ∷ ks) (range_end (from + 1) n) ∙ ap (λ (k : ℕ). from ∷ (range_with_len (from + 1) n ++ k ∷ [])) same

pub flat_agree : {A B : Type 0} (f g : A → List B) → ((x : A) → f x ≡ g x) → (xs : List A) → flat_map f xs ≡ flat_map g xs
flat_agree f g same [] = refl
flat_agree f g same (x ∷ xs) = ap (λ (l : List _). l ++ flat_map f xs) (same x) ∙ ap (λ (l : List _). g x ++ l) (flat_agree f g same xs)

pub nothing_more : {A : Type 0} (xs : List A) → xs ++ [] ≡ xs
nothing_more [] = refl
nothing_more (x ∷ xs) = ap (λ (l : List _). x ∷ l) (nothing_more xs)

pub filters_turned : {A : Type 0} (p q : A → Bool) (xs : List A) → filter p (filter q xs) ≡ filter q (filter p xs)
filters_turned p q [] = refl
filters_turned p q (x ∷ xs) = by (filters_turned p q xs) (p x) refl (q x) refl
  where
    by : filter p (filter q xs) ≡ filter q (filter p xs) → (b : Bool) → p x ≡ b → (d : Bool) → q x ≡ d → filter p (cond d (x ∷ filter q xs) (filter q xs)) ≡ filter q (cond b (x ∷ filter p xs) (filter p xs))
    by rest true is true so =
        ap (λ (t : Bool). cond t (x ∷ filter p (filter q xs)) (filter p (filter q xs))) is
        ∙ (ap (λ (l : List _). x ∷ l) rest
        ∙ sym (ap (λ (t : Bool). cond t (x ∷ filter q (filter p xs)) (filter q (filter p xs))) so))
    by rest true is false so = rest ∙ sym (ap (λ (t : Bool). cond t (x ∷ filter q (filter p xs)) (filter q (filter p xs))) so)
    by rest false is true so = ap (λ (t : Bool). cond t (x ∷ filter p (filter q xs)) (filter p (filter q xs))) is ∙ rest
    by rest false is false so = rest

nothing_taken : {A : Type 0} (xs : List A) → take 0 xs ≡ []
nothing_taken [] = refl
nothing_taken (x ∷ xs) = refl

-- those that pass a test stand in front
pub taken_passing : {A : Type 0} (p : A → Bool) (xs : List A) (i : ℕ) → i ≤ length xs → ((k : ℕ) (d : A) → k < i → p (get_or xs k d) ≡ true)
    → ((k : ℕ) (d : A) → i ≤ k → k < length xs → p (get_or xs k d) ≡ false) → filter p xs ≡ take i xs
taken_passing p [] zero within front back = refl
taken_passing p [] (suc i) within front back = refl
taken_passing p (x ∷ xs) zero within front back =
    ap (λ (b : Bool). cond b (x ∷ filter p xs) (filter p xs)) (back 0 x (omega arith) (omega arith))
    ∙ (taken_passing p xs 0 (omega arith) (λ k d less. absurd (omega (arith, less))) (λ k d least less. back (suc k) d (omega arith) (omega (arith, less)))
    ∙ nothing_taken xs)
taken_passing p (x ∷ xs) (suc i) within front back =
    ap (λ (b : Bool). cond b (x ∷ filter p xs) (filter p xs)) (front 0 x (omega arith))
    ∙ ap (λ (l : List _). x ∷ l) (taken_passing p xs i (omega (arith, within)) (λ k d less. front (suc k) d (omega (arith, less)))
    (λ k d least less. back (suc k) d (omega (arith, least)) (omega (arith, less))))

module _ {A : Type 0} (t : A → ℕ) where
  -- none is below a number, nor below the one before it
  pub Rises : ℕ → List A → Type 0
  Rises low [] = Unit {0}
  Rises low (x ∷ xs) = (low ≤ t x) × Rises (t x) xs

  abbrev less : ℕ → List A → List A
  less n xs = filter (λ x. ltb (t x) n) xs

  abbrev here : ℕ → List A → List A
  here n xs = filter (λ x. eqb (t x) n) xs

  rises_low : (low from : ℕ) (xs : List A) → low ≤ from → Rises from xs → Rises low xs
  unfolding Rises
  rises_low low from [] least rises = tt
  rises_low low from (x ∷ xs) least rises = (omega (arith, least, rises.0), rises.1)

  pub to_rises : (low : ℕ) (xs : List A) → ((d : A) → 0 < length xs → low ≤ t (get_or xs 0 d)) → IsNonDecreasingBy t xs → Rises low xs
  unfolding Rises
  to_rises low [] first is = tt
  to_rises low (x ∷ xs) first is =
      (first x (omega arith), to_rises (t x) xs (λ d some. is 0 1 d (omega arith) (omega (arith, some))) (λ i j d to within. is (suc i) (suc j) d (omega (arith, to)) (omega (arith, within))))

  none_less : (n : ℕ) (xs : List A) → Rises n xs → less n xs ≡ []
  unfolding Rises
  none_less n [] rises = refl
  none_less n (x ∷ xs) rises =
      ap (λ (b : Bool). cond b (x ∷ less n xs) (less n xs)) (le-ltb (t x) n rises.0) ∙ none_less n xs (rises_low n (t x) xs rises.0 rises.1)

  now_here : (n : ℕ) (xs : List A) → Rises n xs → here n xs ≡ less (suc n) xs
  unfolding Rises
  now_here n [] rises = refl
  now_here n (x ∷ xs) rises =
      let rest = now_here n xs (rises_low n (t x) xs rises.0 rises.1) in
      elim (cases_eq (t x) n) [
        | inl same ↦
            ap (λ (b : Bool). cond b (x ∷ here n xs) (here n xs)) (eq-eqb (t x) n same)
            ∙ (ap (λ (l : List A). x ∷ l) rest
            ∙ sym (ap (λ (b : Bool). cond b (x ∷ less (suc n) xs) (less (suc n) xs)) (lt-ltb (t x) (suc n) (omega (arith, same)))))
        | inr other ↦
            ap (λ (b : Bool). cond b (x ∷ here n xs) (here n xs)) (ne_eqb (t x) n other)
            ∙ (rest
            ∙ sym (ap (λ (b : Bool). cond b (x ∷ less (suc n) xs) (less (suc n) xs)) (le-ltb (t x) (suc n) (omega (arith, other, rises.0)))))
      ]

  one_more : (low n : ℕ) (xs : List A) → Rises low xs → less n xs ++ here n xs ≡ less (suc n) xs
  unfolding Rises
  one_more low n [] rises = refl
  one_more low n (x ∷ xs) rises = elim (cases_lt (t x) n) [
    | inl before ↦
        let apart : t x ≡ n → ⊥ = λ same. absurd (omega (arith, same, before)) in
        ap (λ (b : Bool). cond b (x ∷ less n xs) (less n xs) ++ here n (x ∷ xs)) (lt-ltb (t x) n before)
        ∙ (ap (λ (b : Bool). x ∷ (less n xs ++ cond b (x ∷ here n xs) (here n xs))) (ne_eqb (t x) n apart)
        ∙ (ap (λ (l : List A). x ∷ l) (one_more (t x) n xs rises.1)
        ∙ sym (ap (λ (b : Bool). cond b (x ∷ less (suc n) xs) (less (suc n) xs)) (lt-ltb (t x) (suc n) (omega (arith, before))))))
    | inr behind ↦
        ap (λ (l : List A). l ++ here n (x ∷ xs)) (none_less n (x ∷ xs) (behind, rises.1)) ∙ now_here n (x ∷ xs) (behind, rises.1)
  ]

  -- number by number
  pub each_below : (n : ℕ) (low : ℕ) (xs : List A) → Rises low xs → flat_map (λ (k : ℕ). here k xs) (range_with_len 0 n) ≡ less n xs
  each_below zero low xs rises = sym (none_less 0 xs (rises_low 0 low xs (omega arith) rises))
  each_below (suc n) low xs rises =
      let zeroed : 0 + n ≡ n = omega arith in
      ap (flat_map (λ (k : ℕ). here k xs)) (range_end 0 n)
      ∙ (flat_map-append (λ (k : ℕ). here k xs) (range_with_len 0 n) ((0 + n) ∷ [])
      ∙ (ap (λ (l : List A). flat_map (λ (k : ℕ). here k xs) (range_with_len 0 n) ++ l) (nothing_more (here (0 + n) xs))
      ∙ (ap (λ (k : ℕ). flat_map (λ (k : ℕ). here k xs) (range_with_len 0 n) ++ here k xs) zeroed
      ∙ (ap (λ (l : List A). l ++ here n xs) (each_below n low xs rises) ∙ one_more low n xs rises))))

  pub from_rises : (low : ℕ) (xs : List A) → Rises low xs → IsNonDecreasingBy t xs
  unfolding Rises
  from_rises low [] rises = λ i j d to within. absurd (omega (arith, within))
  from_rises low (x ∷ xs) rises = λ i j d to within. by (from_rises (t x) xs rises.1) i j d to within
    where
      least : (from : ℕ) (ys : List A) → Rises from ys → (j : ℕ) (d : A) → j < length ys → from ≤ t (get_or ys j d)
      least from [] up j d within = absurd (omega (arith, within))
      least from (y ∷ ys) up zero d within = up.0
      least from (y ∷ ys) up (suc j) d within = let later = least (t y) ys up.1 j d (omega (arith, within)) in omega (arith, later, up.0)

      by : IsNonDecreasingBy t xs → (i j : ℕ) (d : A) → i ≤ j → j < length (x ∷ xs) → t (get_or (x ∷ xs) i d) ≤ t (get_or (x ∷ xs) j d)
      by rest zero zero d to within = omega arith
      by rest zero (suc j) d to within = least (t x) xs rises.1 j d (omega (arith, within))
      by rest (suc i) zero d to within = absurd (omega (arith, to))
      by rest (suc i) (suc j) d to within = rest i j d (omega (arith, to)) (omega (arith, within))

  pub kept_rise : (p : A → Bool) (low : ℕ) (xs : List A) → Rises low xs → Rises low (filter p xs)
  unfolding Rises
  kept_rise p low [] rises = tt
  kept_rise p low (x ∷ xs) rises = by (p x) (kept_rise p (t x) xs rises.1)
    where
      by : (b : Bool) → Rises (t x) (filter p xs) → Rises low (cond b (x ∷ filter p xs) (filter p xs))
      by true rest = (rises.0, rest)
      by false rest = rises_low low (t x) (filter p xs) rises.0 rest

  -- those below a number stand in front
  pub parted_by : (xs : List A) (n : ℕ) → IsNonDecreasingBy t xs → IsPartitionedBy (λ x. ltb (t x) n) xs
  parted_by xs n rises = λ i j d to within passes. lt-ltb (t (get_or xs i d)) n (omega (arith, rises i j d to within, ltb-true (t (get_or xs j d)) n passes))
