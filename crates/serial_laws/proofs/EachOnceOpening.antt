-- In a new map each element is in one place.
use Rattle.std.proofs.Common.{◌≡◌, ℕ, zero, suc, ◌+◌, ◌-◌, ◌*◌, ◌/◌, ◌%◌, ◌<◌, ◌≤◌, Bool, false, not, eqb, cond, List, [], ◌∷◌, ◌++◌, length, map, reverse, get_or, Option, Some, None, IsPermutation, refl, sym, ap, ◌∙◌, subst, inl, inr, arith, append-nil}
use Rattle.std.specs.Prelude.{find, replicate, option_map, unwrap_or}
use Rattle.std.specs.List.{concat, flat_map, range_with_len}
use Rattle.std.proofs.Math.Nat.{suc-mul, zero-mul}
use Rattle.std.proofs.lemmas.Bool.{cases_lt, lt-ltb, le-ltb}
use Rattle.std.proofs.lemmas.List.{length-append, length-replicate}
use Rattle.std.proofs.lemmas.List.FromFn.{length-range_with_len, length-map-range_with_len, get_or-range_with_len}
use Rattle.std.proofs.lemmas.List.Sorted.{IsPermutation-refl, IsPermutation-trans, IsPermutation-append, IsPermutation-middle, IsPermutation-cons, IsPermutation-sym, IsPermutation-reverse, length_permutation}
use Rattle.std.proofs.lemmas.Option.{none-some}
use Rattle.map_types.specs.Shape.{HasBounds}
use Rattle.map_types.specs.declared.attr.Shape.{Shape}
use Rattle.map_types.specs.declared.kind.MapKind.{MapKind}
use Rattle.map_types.specs.declared.kind.MapKind.TheVariants.{Hash, PercpuHash, LruHash, LruPercpuHash}
use Rattle.map_types.specs.Kind.{is_lru}
use Rattle.place_words.specs.declared.finals.Finals.{Finals}
use Rattle.map_report.specs.EachOnce.{EachOnce, elements_of}
use Rattle.place_words.specs.Shares.{share_first, share_count}
use Rattle.map_report.specs.Freelists.{opening_stack, opening_stacks, stack_at, ring, first_not_empty, popped_at, popped, spares_popped}
use Rattle.map_report.specs.Serial.{has_spares, spare_count, opening}
use Rattle.map_report.specs.Soundness.{HasLists}
use Rattle.map_report.proofs.EachAtRest.{each_once_from}
use Rattle.serial_laws.proofs.EachOnceSteps.{permutes_same, numbers, IsPop, popped_is, none_there}
use Rattle.place_words.proofs.Splits.{find_misses}
use Rattle.place_words.proofs.OpeningSettled.{share_all}

-- Each once, by the lists alone

pub each_once_moved : (n : ℕ) (before after : Finals) → EachOnce n before → IsPermutation (elements_of before) (elements_of after) → EachOnce n after
each_once_moved n before after once moved =
    each_once_from n after (IsPermutation-trans (range_with_len 0 n) (elements_of before) (elements_of after) once.each moved)

-- Numbers that follow one another

pub range-append : (a m n : ℕ) → range_with_len a m ++ range_with_len (a + m) n ≡ range_with_len a (m + n)
range-append a zero n = ap (λ k. range_with_len k n) (let none : a + 0 ≡ a = omega arith in none) ∙ ap (range_with_len a) (let none : n ≡ 0 + n = omega arith in none)
range-append a (suc m) n =
    let start : a + suc m ≡ a + 1 + m = omega arith in
    let count : suc m + n ≡ suc (m + n) = omega arith in
    ap (λ k. a ∷ (range_with_len (a + 1) m ++ range_with_len k n)) start ∙ ap (λ l. a ∷ l) (range-append (a + 1) m n) ∙ ap (range_with_len a) (sym count)

-- how many numbers the runs of n CPUs have, from a CPU on
abbrev counted : (ℕ → ℕ) → ℕ → ℕ → ℕ
counted count a zero = 0
counted count a (suc n) = count a + counted count (a + 1) n

counted_is : (first count : ℕ → ℕ) → ((c : ℕ) → first (c + 1) ≡ first c + count c) → (a n : ℕ) → first a + counted count a n ≡ first (a + n)
counted_is first count next a zero = let none : a + 0 ≡ a = omega arith in let zero : first a + 0 ≡ first a = omega arith in zero ∙ ap first (sym none)
counted_is first count next a (suc n) =
    let rest : first (a + 1) + counted count (a + 1) n ≡ first (a + 1 + n) = counted_is first count next (a + 1) n in
    let here : first (a + 1) ≡ first a + count a = next a in
    let end : first (a + 1 + n) ≡ first (a + suc n) = ap first (omega arith) in
    let sum : first a + (count a + counted count (a + 1) n) ≡ first (a + 1) + counted count (a + 1) n = omega arith in
    sum ∙ rest ∙ end

-- runs of numbers that follow one another, each turned back, have the numbers of one run
pub runs_permute : (first count : ℕ → ℕ) → ((c : ℕ) → first (c + 1) ≡ first c + count c) → (a n : ℕ)
    → IsPermutation (range_with_len (first a) (counted count a n)) (concat (map (λ c. reverse (range_with_len (first c) (count c))) (range_with_len a n)))
runs_permute first count next a zero = IsPermutation-refl []
runs_permute first count next a (suc n) =
    let here : List ℕ = range_with_len (first a) (count a) in
    let more : List ℕ = range_with_len (first (a + 1)) (counted count (a + 1) n) in
    let split : range_with_len (first a) (count a + counted count (a + 1) n) ≡ here ++ more =
    sym (range-append (first a) (count a) (counted count (a + 1) n)) ∙ ap (λ k. here ++ range_with_len k (counted count (a + 1) n)) (sym (next a)) in
    subst (λ l. IsPermutation l (reverse here ++ concat (map (λ c. reverse (range_with_len (first c) (count c))) (range_with_len (a + 1) n)))) (sym split)
    (IsPermutation-append here (reverse here) more _ (IsPermutation-reverse here) (runs_permute first count next (a + 1) n))

-- Shares

pub share_next : (elements cpus c : ℕ) → share_first elements cpus (c + 1) ≡ share_first elements cpus c + share_count elements cpus c
share_next elements cpus c =
    let q : ℕ = elements / cpus in
    let step : c + 1 ≡ suc c = omega arith in
    let more : suc c * q ≡ c * q + q = suc-mul c q in
    let turned : (c + 1) * q ≡ c * q + q = ap (λ k. k * q) step ∙ more in
    elim (cases_lt c (elements % cpus)) [
      | inl less ↦ rw (lt-ltb c (elements % cpus) less) (omega arith)
      | inr past ↦ rw (le-ltb c (elements % cpus) past) (omega arith)
    ]

pub share_none : (elements cpus : ℕ) → share_first elements cpus 0 ≡ 0
share_none elements cpus = let none = zero-mul (elements / cpus) in omega arith

-- the opening stacks have each number below the number of elements once
pub opening_stacks_permute : (elements cpus : ℕ) → 1 ≤ cpus → IsPermutation (range_with_len 0 elements) (concat (opening_stacks elements cpus))
opening_stacks_permute elements cpus some =
    let start : share_first elements cpus 0 ≡ 0 = share_none elements cpus in
    let whole : share_first elements cpus 0 + counted (share_count elements cpus) 0 cpus ≡ share_first elements cpus (0 + cpus) =
    counted_is (share_first elements cpus) (share_count elements cpus) (share_next elements cpus) 0 cpus in
    let end : share_first elements cpus (0 + cpus) ≡ elements = ap (share_first elements cpus) (let same : 0 + cpus ≡ cpus = omega arith in same) ∙ share_all elements cpus some in
    let count : counted (share_count elements cpus) 0 cpus ≡ elements = omega arith in
    subst (λ k. IsPermutation (range_with_len 0 k) (concat (opening_stacks elements cpus))) count
    (subst (λ k. IsPermutation (range_with_len k (counted (share_count elements cpus) 0 cpus)) (concat (opening_stacks elements cpus))) start
    (runs_permute (share_first elements cpus) (share_count elements cpus) (share_next elements cpus) 0 cpus))

-- Spares

-- where no pop finds an element, there is none
all_empty : (stacks : List (List ℕ)) → ((c : ℕ) → c < length stacks → length (get_or stacks c []) ≡ 0) → length (concat stacks) ≡ 0
all_empty [] empty = refl
all_empty (stack ∷ stacks) empty =
    let here : length stack ≡ 0 = empty 0 (omega arith) in
    let rest : length (concat stacks) ≡ 0 = all_empty stacks (λ c within. empty (suc c) (omega arith)) in
    let both : length (stack ++ concat stacks) ≡ length stack + length (concat stacks) = length-append stack (concat stacks) in
    omega arith

option_map_none : {A B : Type 0} (f : A → B) (found : Option A) → option_map f found ≡ None → found ≡ None
option_map_none f None none = refl
option_map_none f (Some x) none = absurd (none-some (f x) (sym none))

pub ring_whole : (n : ℕ) → ring 0 n ≡ range_with_len 0 n
ring_whole n = append-nil (range_with_len 0 (n - 0)) ∙ ap (range_with_len 0) (let same : n - 0 ≡ n = omega arith in same)

abbrev not_empty_at : List (List ℕ) → ℕ → Bool
not_empty_at stacks c = not (eqb (length (stack_at stacks c)) 0)

pub popped_none : (stacks : List (List ℕ)) → popped 0 stacks ≡ None → length (concat stacks) ≡ 0
popped_none stacks none =
    let missed : find (not_empty_at stacks) (ring 0 (length stacks)) ≡ None = option_map_none (popped_at stacks) (first_not_empty 0 stacks) none in
    let over : find (not_empty_at stacks) (range_with_len 0 (length stacks)) ≡ None = subst (λ l. find (not_empty_at stacks) l ≡ None) (ring_whole (length stacks)) missed in
    all_empty stacks (λ c within.
    let long : length (range_with_len 0 (length stacks)) ≡ length stacks = length-range_with_len 0 (length stacks) in
    let at : get_or (range_with_len 0 (length stacks)) c 0 ≡ 0 + c = get_or-range_with_len 0 (length stacks) c 0 within in
    let same : 0 + c ≡ c = omega arith in
    none_there (length (stack_at stacks c))
    (subst (λ k. not_empty_at stacks k ≡ false) (at ∙ same) (find_misses (not_empty_at stacks) (range_with_len 0 (length stacks)) c 0 over (omega arith))))

-- so many elements were popped, and are where they were or spares
pub record AreSpares (n : ℕ) (stacks : List (List ℕ)) (after : List ℕ × List (List ℕ)) : Type 0 where
  pub spares : length after.0 ≡ n
  pub stacks_kept : length after.1 ≡ length stacks
  pub permutes : IsPermutation (concat stacks) (concat after.1 ++ after.0)

spares_step : (n : ℕ) (stacks : List (List ℕ)) (top : Option (ℕ × List (List ℕ))) → popped 0 stacks ≡ top → suc n ≤ length (concat stacks)
    → ((next : List (List ℕ)) → n ≤ length (concat next) → AreSpares n next (spares_popped n next))
    → AreSpares (suc n) stacks (unwrap_or (option_map (λ top. (top.0 ∷ (spares_popped n top.1).0, (spares_popped n top.1).1)) top) ([], stacks))
spares_step n stacks None is enough rest = let none : length (concat stacks) ≡ 0 = popped_none stacks is in absurd (omega arith)
spares_step n stacks (Some top) is enough rest =
    let pop : IsPop stacks top = popped_is 0 stacks top is in
    let long : length (top.0 ∷ concat top.1) ≡ length (concat stacks) = length_permutation (concat stacks) (top.0 ∷ concat top.1) pop.permutes in
    let more : AreSpares n top.1 (spares_popped n top.1) = rest top.1 (omega arith) in
    record {
      spares = ap suc more.spares;
      stacks_kept = more.stacks_kept ∙ pop.stacks_kept;
      permutes =
          IsPermutation-trans _ _ _ pop.permutes
          (IsPermutation-trans _ _ _ (IsPermutation-cons top.0 _ _ more.permutes)
          (IsPermutation-sym _ _ (IsPermutation-middle (concat (spares_popped n top.1).1) top.0 (spares_popped n top.1).0)));
    }

pub spares_are : (n : ℕ) (stacks : List (List ℕ)) → n ≤ length (concat stacks) → AreSpares n stacks (spares_popped n stacks)
spares_are zero stacks enough = record {
  spares = refl;
  stacks_kept = refl;
  permutes = permutes_same (concat stacks) (concat stacks ++ []) (sym (append-nil (concat stacks)));
}
spares_are (suc n) stacks enough = spares_step n stacks (popped 0 stacks) refl enough (spares_are n)

-- The opening

-- there are as many elements as spares
spares_fit : (kind : MapKind) (capacity cpus elements : ℕ) → (kind ≡ Hash → elements ≡ capacity + cpus) → cond (has_spares kind) cpus 0 ≤ elements
spares_fit Hash capacity cpus elements hash = let sum : elements ≡ capacity + cpus = hash refl in omega arith
spares_fit PercpuHash capacity cpus elements hash = omega arith
spares_fit LruHash capacity cpus elements hash = omega arith
spares_fit LruPercpuHash capacity cpus elements hash = omega arith

pub spares_in_elements : (shape : Shape) → HasBounds shape → spare_count shape ≤ shape.elements
spares_in_elements shape bounds = spares_fit shape.kind shape.capacity shape.cpus shape.elements bounds.spares_of_hash

none_in_empty : (n : ℕ) → flat_map numbers (replicate n []) ≡ []
none_in_empty zero = refl
none_in_empty (suc n) = none_in_empty n

pub opening_spares : (shape : Shape) → HasBounds shape → AreSpares (spare_count shape) (opening_stacks shape.elements shape.cpus) (spares_popped (spare_count shape) (opening_stacks shape.elements shape.cpus))
opening_spares shape bounds =
    let long : length (concat (opening_stacks shape.elements shape.cpus)) ≡ length (range_with_len 0 shape.elements) =
    length_permutation _ _ (opening_stacks_permute shape.elements shape.cpus bounds.some_cpu) in
    let count : length (range_with_len 0 shape.elements) ≡ shape.elements = length-range_with_len 0 shape.elements in
    let few : spare_count shape ≤ shape.elements = spares_in_elements shape bounds in
    spares_are (spare_count shape) (opening_stacks shape.elements shape.cpus) (omega arith)

pub opening_lists : (shape : Shape) → HasBounds shape → HasLists shape (opening shape)
unfolding opening
opening_lists shape bounds =
    let drawn = opening_spares shape bounds in
    record {
      buckets = length-replicate shape.buckets [];
      freelists = drawn.stacks_kept ∙ length-map-range_with_len (opening_stack shape.elements shape.cpus) 0 shape.cpus;
      spares = drawn.spares;
    }

pub opening_permutes : (shape : Shape) → HasBounds shape → IsPermutation (range_with_len 0 shape.elements) (elements_of (opening shape))
unfolding opening
opening_permutes shape bounds =
    let drawn = opening_spares shape bounds in
    let stacks : List (List ℕ) = (spares_popped (spare_count shape) (opening_stacks shape.elements shape.cpus)).1 in
    let spares : List ℕ = (spares_popped (spare_count shape) (opening_stacks shape.elements shape.cpus)).0 in
    subst (λ l. IsPermutation (range_with_len 0 shape.elements) ((l ++ concat stacks) ++ spares)) (sym (none_in_empty shape.buckets))
    (IsPermutation-trans _ _ _ (opening_stacks_permute shape.elements shape.cpus bounds.some_cpu) drawn.permutes)

pub each_once_opening : (shape : Shape) → HasBounds shape → is_lru shape.kind ≡ false → HasLists shape (opening shape) × EachOnce shape.elements (opening shape)
each_once_opening shape bounds kind =
    (opening_lists shape bounds, each_once_from shape.elements (opening shape) (opening_permutes shape bounds))
