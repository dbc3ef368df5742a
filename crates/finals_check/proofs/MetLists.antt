-- What a table is after lists that stand one behind the other.
use Rattle.std.proofs.Common.{◌≡◌, ℕ, ◌+◌, ◌<◌, Bool, true, false, cond, List, [], ◌∷◌, ◌++◌, drop, length, get_or, set, Option, Some, None, refl, ap, sym, ◌∙◌}
use Rattle.std.specs.List.{concat, flat_map}
use Rattle.std.proofs.lemmas.Option.{none-some, same_Some}
use Rattle.std.proofs.Math.Numerals.{add-one}
use Rattle.std.proofs.Math.Seq.{drop-cons}
use Rattle.finals_check.specs.Marking.{is_new, met_after}

pub goes_on : (met now : List Bool) (xs ys : List ℕ) → Some now ≡ met_after met xs → met_after now ys ≡ met_after met (xs ++ ys)
goes_on met now [] ys after = ap (λ (m : List Bool). met_after m ys) (same_Some now met after)
goes_on met now (x ∷ xs) ys after = by (is_new met x) (λ there. goes_on (set met x true) now xs ys there) after
  where
    by : (b : Bool) → (Some now ≡ met_after (set met x true) xs → met_after now ys ≡ met_after (set met x true) (xs ++ ys))
        → Some now ≡ cond b (met_after (set met x true) xs) None → met_after now ys ≡ cond b (met_after (set met x true) (xs ++ ys)) None
    by true rest there = rest there
    by false rest there = absurd (none-some now (sym there))

pub stops : (met : List Bool) (xs ys : List ℕ) → None ≡ met_after met xs → None ≡ met_after met (xs ++ ys)
stops met [] ys none = absurd (none-some met none)
stops met (x ∷ xs) ys none = by (is_new met x) (λ there. stops (set met x true) xs ys there) none
  where
    by : (b : Bool) → (None ≡ met_after (set met x true) xs → None ≡ met_after (set met x true) (xs ++ ys))
        → None ≡ cond b (met_after (set met x true) xs) None → None ≡ cond b (met_after (set met x true) (xs ++ ys)) None
    by true rest there = rest there
    by false rest there = there

-- a list behind another, by the tests of both
pub one_more : (met now then : List Bool) (xs ys : List ℕ) (one more : Bool) → cond one (Some now) None ≡ met_after met xs → one ≡ true → cond more (Some then) None ≡ met_after now ys
    → cond more (Some then) None ≡ met_after met (xs ++ ys)
one_more met now then xs ys one more first is second = second ∙ goes_on met now xs ys (sym (ap (λ (b : Bool). cond b (Some now) None) is) ∙ first)

pub none_more : (met now : List Bool) (xs ys : List ℕ) (one : Bool) → cond one (Some now) None ≡ met_after met xs → one ≡ false → None ≡ met_after met (xs ++ ys)
none_more met now xs ys one first is = stops met xs ys (sym (ap (λ (b : Bool). cond b (Some now) None) is) ∙ first)

-- In a loop over items that have elements each.
module _ {A : Type 0} (f : A → List ℕ) where
  left_is : (items : List A) (i : ℕ) (item : A) → i < length items → item ≡ get_or items i item → flat_map f (drop i items) ≡ f item ++ flat_map f (drop (i + 1) items)
  left_is items i item less is =
      let left : drop i items ≡ item ∷ drop (i + 1) items = drop-cons items i item less ∙ (λ j. sym is j ∷ drop (sym (add-one i) j) items) in
      ap (flat_map f) left

  pub loop_more : (items : List A) (i : ℕ) (item : A) (met now : List Bool) (total : Option (List Bool)) → i < length items → item ≡ get_or items i item
      → Some now ≡ met_after met (f item) → met_after met (flat_map f (drop i items)) ≡ total → met_after now (flat_map f (drop (i + 1) items)) ≡ total
  loop_more items i item met now total less is after before =
      goes_on met now (f item) (flat_map f (drop (i + 1) items)) after ∙ (ap (met_after met) (sym (left_is items i item less is)) ∙ before)

  pub loop_none : (items : List A) (i : ℕ) (item : A) (met : List Bool) (total : Option (List Bool)) → i < length items → item ≡ get_or items i item
      → None ≡ met_after met (f item) → met_after met (flat_map f (drop i items)) ≡ total → None ≡ total
  loop_none items i item met total less is none before =
      stops met (f item) (flat_map f (drop (i + 1) items)) none ∙ (ap (met_after met) (sym (left_is items i item less is)) ∙ before)

-- the same over lists themselves
lists_joined : (lists : List (List ℕ)) → concat lists ≡ flat_map (λ (list : List ℕ). list) lists
lists_joined [] = refl
lists_joined (list ∷ lists) = ap (λ (rest : List ℕ). list ++ rest) (lists_joined lists)

pub joined_more : (items : List (List ℕ)) (i : ℕ) (item : List ℕ) (met now : List Bool) (total : Option (List Bool)) → i < length items → item ≡ get_or items i item
    → Some now ≡ met_after met item → met_after met (concat (drop i items)) ≡ total → met_after now (concat (drop (i + 1) items)) ≡ total
joined_more items i item met now total less is after before =
    ap (met_after now) (lists_joined (drop (i + 1) items))
    ∙ loop_more (λ (list : List ℕ). list) items i item met now total less is after (ap (met_after met) (sym (lists_joined (drop i items))) ∙ before)

pub joined_none : (items : List (List ℕ)) (i : ℕ) (item : List ℕ) (met : List Bool) (total : Option (List Bool)) → i < length items → item ≡ get_or items i item
    → None ≡ met_after met item → met_after met (concat (drop i items)) ≡ total → None ≡ total
joined_none items i item met total less is none before =
    loop_none (λ (list : List ℕ). list) items i item met total less is none (ap (met_after met) (sym (lists_joined (drop i items))) ∙ before)
