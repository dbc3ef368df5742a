-- What is real under a lock: each number below a bound stands there once at most, and no other does. So each is an element of the map,
-- and there are no more of them than the map has.
use Rattle.std.proofs.Common.{◌≡◌, ◌⊎◌, ℕ, suc, ◌<◌, ◌≤◌, cond, ltb, List, [], ◌∷◌, ◌++◌, length, ap, arith, inl, inr}
use Rattle.std.specs.List.{range_with_len}
use Rattle.std.proofs.lemmas.Bool.{cases_lt, le-ltb}
use Rattle.std.proofs.lemmas.List.{length-append}
use Rattle.std.proofs.lemmas.List.FromFn.{length-range_with_len}
use Rattle.map_types.specs.declared.attr.Shape.{Shape}
use Rattle.map_types.specs.ElementLists.{IsIn, one, times}
use Rattle.map_types.specs.Listed.{elements_of}
use Rattle.map_types.proofs.RowLemmas.{by_test, times_append}
use Rattle.place_words.specs.Histories.{Content, in_locals, in_own}
use Rattle.place_words.specs.Locals.{LocalLists}
use Rattle.place_words.specs.Moves.{elements_in}
use Rattle.place_words.specs.Sets.{ListSet}
use Rattle.place_words.proofs.BucketLaws.{times_more}
use Rattle.place_words.proofs.ChaseDone.{times_one}
use Rattle.place_words.proofs.Permutes.{numbers_count}
use Rattle.record_shape.specs.Fits.{AllFit}
use Rattle.place_words.specs.Real.{IsReal}
use Rattle.record_shape.specs.ShapedParts.{AreElements}

-- each number below the bound stands in the list once at most, and no other does
abbrev pub AreOnceBelow : ℕ → List ℕ → Type 0
AreOnceBelow bound xs = (e : ℕ) → times e xs ≤ one (ltb e bound)

-- each is below the bound
pub below_bound : (bound : ℕ) (xs : List ℕ) → AreOnceBelow bound xs → (e : ℕ) → IsIn e xs → e < bound
below_bound bound xs few e there = by (cases_lt e bound)
  where
    by : (e < bound) ⊎ (bound ≤ e) → e < bound
    by (inl below) = below
    by (inr above) = let none : one (ltb e bound) ≡ 0 = ap one (le-ltb e bound above) in absurd (omega (arith, few e, there, none))

-- a part of the list, by counts, is such a list
pub once_part : (bound : ℕ) (xs part : List ℕ) → ((e : ℕ) → times e part ≤ times e xs) → AreOnceBelow bound xs → AreOnceBelow bound part
once_part bound xs part less few e = omega (arith, less e, few e)

pub all_below : (bound : ℕ) (xs : List ℕ) → AreOnceBelow bound xs → AllFit (λ e. e < bound) xs
all_below bound [] few = tt
all_below bound (x ∷ xs) few = (
  below_bound bound (x ∷ xs) few x (omega (arith, times_more x x xs, times_one x)),
  all_below bound xs (once_part bound (x ∷ xs) xs (λ e. omega (arith, times_more e x xs)) few),
)

-- a list around an element that stands in it
around : (e : ℕ) (xs : List ℕ) → IsIn e xs → (before : List ℕ) × (after : List ℕ) × (xs ≡ before ++ e ∷ after)
around e [] there = absurd (omega (arith, there))
around e (x ∷ xs) there =
    by_test x e (λ b. 0 < cond b (suc (times e xs)) (times e xs) → (before : List ℕ) × (after : List ℕ) × (x ∷ xs ≡ before ++ e ∷ after))
    (λ is some. ([], xs, ap (λ y. y ∷ xs) is))
    (λ other some. let rest = around e xs some in (x ∷ rest.0, rest.1, ap (λ (l : List ℕ). x ∷ l) rest.2))
    there

-- a list in which no number stands oftener than in another is no longer than that
pub fewer_short : (xs ys : List ℕ) → ((e : ℕ) → times e xs ≤ times e ys) → length xs ≤ length ys
fewer_short [] ys few = omega arith
fewer_short (x ∷ xs) ys few =
    let split = around x ys (omega (arith, few x, times_more x x xs, times_one x)) in
    let rest = fewer_short xs (split.0 ++ split.1) (λ e. left e split.0 split.1 (ap (times e) split.2)) in
    omega (arith, rest, ap (length {A = ℕ}) split.2, length-append split.0 split.1, length-append split.0 (x ∷ split.1))
  where
    left : (e : ℕ) (before after : List ℕ) → times e ys ≡ times e (before ++ x ∷ after) → times e xs ≤ times e (before ++ after)
    left e before after same =
        omega (arith, few e, same, times_more e x xs, times_more e x after, times_append e before (x ∷ after), times_append e before after)

-- no more of them than the bound
pub once_short : (bound : ℕ) (xs : List ℕ) → AreOnceBelow bound xs → length xs ≤ bound
once_short bound xs few =
    let short = fewer_short xs (range_with_len 0 bound) (λ e. omega (arith, few e, numbers_count e bound)) in
    omega (arith, short, length-range_with_len 0 bound)

-- ---- of what lies under a lock

pub real_below : (shape : Shape) (content : Content) → IsReal shape content → (e : ℕ) → IsIn e (elements_in content) → e < shape.elements
real_below shape content real = below_bound shape.elements (elements_in content) real

pub real_length : (shape : Shape) (content : Content) → IsReal shape content → length (elements_in content) ≤ shape.elements
real_length shape content real = once_short shape.elements (elements_in content) real

pub real_elements : (shape : Shape) (content : Content) → IsReal shape content → AreElements shape (elements_in content)
real_elements shape content real = all_below shape.elements (elements_in content) real

-- the lists that lie there, one by one
module _ (shape : Shape) (lists : LocalLists) (real : IsReal shape (in_locals lists)) where
  pub free_once : AreOnceBelow shape.elements lists.free
  free_once e = omega (arith, real e, times_append e lists.free (elements_of lists.pending))

  pub pending_once : AreOnceBelow shape.elements (elements_of lists.pending)
  pending_once e = omega (arith, real e, times_append e lists.free (elements_of lists.pending))

  pub free_elements : AreElements shape lists.free
  free_elements = all_below shape.elements lists.free free_once

  pub pending_elements : AreElements shape (elements_of lists.pending)
  pending_elements = all_below shape.elements (elements_of lists.pending) pending_once

-- a set is real as the global one and as a CPU's own one alike
module _ (shape : Shape) (set : ListSet) (real : IsReal shape (in_own set)) where
  pub set_free_once : AreOnceBelow shape.elements set.free
  set_free_once e =
      omega (arith, real e, times_append e set.free (elements_of set.lists.active ++ elements_of set.lists.inactive))

  pub active_once : AreOnceBelow shape.elements (elements_of set.lists.active)
  active_once e =
      omega (arith, real e, times_append e set.free (elements_of set.lists.active ++ elements_of set.lists.inactive), times_append e (elements_of set.lists.active) (elements_of set.lists.inactive))

  pub inactive_once : AreOnceBelow shape.elements (elements_of set.lists.inactive)
  inactive_once e =
      omega (arith, real e, times_append e set.free (elements_of set.lists.active ++ elements_of set.lists.inactive), times_append e (elements_of set.lists.active) (elements_of set.lists.inactive))

  pub set_free_elements : AreElements shape set.free
  set_free_elements = all_below shape.elements set.free set_free_once

  pub active_elements : AreElements shape (elements_of set.lists.active)
  active_elements = all_below shape.elements (elements_of set.lists.active) active_once

  pub inactive_elements : AreElements shape (elements_of set.lists.inactive)
  inactive_elements = all_below shape.elements (elements_of set.lists.inactive) inactive_once
