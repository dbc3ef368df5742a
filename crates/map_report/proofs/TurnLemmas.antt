-- Turns that are gone over one after another, by their places.
use Rattle.std.proofs.Common.{◌≡◌, ℕ, ◌+◌, Bool, true, false, List, ◌∷◌, ◌++◌, Some, take, drop, map, get_or, ap, sym, ◌∙◌, append_assoc}
use Rattle.std.specs.Prelude.{count_by}
use Rattle.std.specs.List.{flat_map, slice_get}
use Rattle.std.proofs.lemmas.List.{drop_more}
use Rattle.std.proofs.lemmas.List.Concat.{flat_map-cons}
use Rattle.std.proofs.lemmas.List.Sums.{count_by_more_no, count_by_more_yes}
use Rattle.std.proofs.lemmas.Option.{get_or_from_slice_get, slice_get_within}

-- from a place on, the one that stands there and those behind it
turns_from : {A : Type 0} (xs : List A) (i : ℕ) (x : A) → slice_get xs i ≡ Some x → drop i xs ≡ x ∷ drop (i + 1) xs
turns_from xs i x found =
    drop_more xs i x (slice_get_within xs i x found) ∙ ap (λ y. y ∷ drop (i + 1) xs) (get_or_from_slice_get xs i x x found)

-- the line of one more is added
pub added_more : {A B C : Type 0} (line : B → List C) (text : A → B) (xs : List A) (i : ℕ) (x : A) (now next all : List C)
    → slice_get xs i ≡ Some x → now ++ flat_map line (map text (drop i xs)) ≡ all → next ≡ now ++ line (text x)
    → next ++ flat_map line (map text (drop (i + 1) xs)) ≡ all
added_more line text xs i x now next all found so_far adds =
    let left = flat_map line (map text (drop (i + 1) xs)) in
    ap (λ (one : List _). one ++ left) adds
    ∙ append_assoc now (line (text x)) left
    ∙ ap (λ (one : List _). now ++ one) (sym (flat_map-cons line (text x) (map text (drop (i + 1) xs))))
    ∙ ap (λ (some : List _). now ++ flat_map line (map text some)) (sym (turns_from xs i x found))
    ∙ so_far

-- one more is counted if it passes
module _ {A : Type 0} (p : A → Bool) (xs : List A) (i count now : ℕ) (x : A) (test : Bool) (found : slice_get xs i ≡ Some x) (so_far : count ≡ count_by p (take i xs)) (is : test ≡ p x) where
  here : p (get_or xs i x) ≡ test
  here = ap p (get_or_from_slice_get xs i x x found) ∙ sym is

  pub counted : test ≡ true → now ≡ count + 1 → now ≡ count_by p (take (i + 1) xs)
  counted passes more = more ∙ ap (λ n. n + 1) so_far ∙ sym (count_by_more_yes p xs i x (slice_get_within xs i x found) (here ∙ passes))

  pub not_counted : test ≡ false → now ≡ count → now ≡ count_by p (take (i + 1) xs)
  not_counted fails same = same ∙ so_far ∙ sym (count_by_more_no p xs i x (slice_get_within xs i x found) (here ∙ fails))
