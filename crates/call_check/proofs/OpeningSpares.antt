-- The spares of a new map: taken off the stacks one after another they are the first elements of all stacks.
use Rattle.std.proofs.Common.{◌≡◌, ℕ, zero, suc, ◌+◌, ◌-◌, ◌==◌, Bool, true, false, not, cond, List, [], ◌∷◌, ◌++◌, length, map, take, drop, reverse, Option, Some, None, refl, ap, sym, ◌∙◌, arith}
use Rattle.std.specs.Prelude.{find, option_map, unwrap_or}
use Rattle.std.specs.List.{concat, flat_map, range_with_len}
use Rattle.std.proofs.lemmas.Bool.{ne_eqb}
use Rattle.std.proofs.lemmas.List.{append-nil, reverse-append}
use Rattle.map_types.specs.declared.attr.Shape.{Shape}
use Rattle.map_types.specs.declared.kind.MapKind.{MapKind}
use Rattle.map_types.specs.declared.kind.MapKind.TheVariants.{Hash}
use Rattle.place_words.specs.Openings.{opening_stack, opening_spares}
use Rattle.place_words.specs.Shares.{share_first, share_count, pushed_from}
use Rattle.map_report.specs.Freelists.{stack_at, first_not_empty, popped_at, popped, ring, spares_popped}
use Rattle.map_report.specs.Freelists as lists
use Rattle.map_report.specs.Serial.{has_spares, opening}

ring_whole : (n : ℕ) → ring 0 n ≡ range_with_len 0 n
ring_whole n = append-nil (range_with_len 0 (n - 0)) ∙ ap (range_with_len 0) (let same : n - 0 ≡ n = omega arith in same)

-- whether a stack isn't empty
abbrev has_top : List (List ℕ) → ℕ → Bool
has_top stacks cpu = not (length (stack_at stacks cpu) == 0)

-- one more spare, and the rest
abbrev with_spare : ℕ → List ℕ × List (List ℕ) → List ℕ × List (List ℕ)
with_spare spare rest = (spare ∷ rest.0, rest.1)

spares_next : (n : ℕ) (stacks : List (List ℕ)) (top : ℕ × List (List ℕ)) → popped 0 stacks ≡ Some top → spares_popped (suc n) stacks ≡ with_spare top.0 (spares_popped n top.1)
spares_next n stacks top is = ap (λ o. unwrap_or (option_map (λ (t : ℕ × List (List ℕ)). with_spare t.0 (spares_popped n t.1)) o) ([], stacks)) is

spares_end : (n : ℕ) (stacks : List (List ℕ)) → popped 0 stacks ≡ None → spares_popped n stacks ≡ ([], stacks)
spares_end zero stacks is = refl
spares_end (suc n) stacks is = ap (λ o. unwrap_or (option_map (λ (t : ℕ × List (List ℕ)). with_spare t.0 (spares_popped n t.1)) o) ([], stacks)) is

-- Pops one after another

-- the stacks without the first n elements of all
abbrev dropped : ℕ → List (List ℕ) → List (List ℕ)
dropped n [] = []
dropped n (stack ∷ stacks) = drop n stack ∷ dropped (n - length stack) stacks

-- these elements, and the stacks without them
abbrev split_at : ℕ → List (List ℕ) → List ℕ × List (List ℕ)
split_at n stacks = (take n (concat stacks), dropped n stacks)

range_up : (a n : ℕ) → range_with_len (suc a) n ≡ map suc (range_with_len a n)
range_up a zero = refl
range_up a (suc n) =
    let next : suc a + 1 ≡ suc (a + 1) = omega arith in
    ap (λ (k : ℕ). suc a ∷ range_with_len k n) next ∙ ap (λ (l : List ℕ). suc a ∷ l) (range_up (a + 1) n)

find_up : (test : ℕ → Bool) (xs : List ℕ) → find test (map suc xs) ≡ option_map suc (find (λ x. test (suc x)) xs)
find_up test [] = refl
find_up test (x ∷ xs) = by (test (suc x)) (find_up test xs)
  where
    by : (b : Bool) → find test (map suc xs) ≡ option_map suc (find (λ x. test (suc x)) xs)
        → cond b (Some (suc x)) (find test (map suc xs)) ≡ option_map suc (cond b (Some x) (find (λ x. test (suc x)) xs))
    by true rest = refl
    by false rest = rest

-- an empty stack in front is passed
found_behind : (stacks : List (List ℕ)) → first_not_empty 0 ([] ∷ stacks) ≡ option_map suc (first_not_empty 0 stacks)
found_behind stacks =
    ap (find (has_top ([] ∷ stacks))) (ring_whole (length ([] ∷ stacks)))
    ∙ (ap (find (has_top ([] ∷ stacks))) (range_up 0 (length stacks))
    ∙ (find_up (has_top ([] ∷ stacks)) (range_with_len 0 (length stacks))
    ∙ ap (λ l. option_map suc (find (has_top stacks) l)) (sym (ring_whole (length stacks)))))

abbrev behind_empty : ℕ × List (List ℕ) → ℕ × List (List ℕ)
behind_empty top = (top.0, [] ∷ top.1)

popped_behind : (stacks : List (List ℕ)) → popped 0 ([] ∷ stacks) ≡ option_map behind_empty (popped 0 stacks)
popped_behind stacks = ap (option_map (popped_at ([] ∷ stacks))) (found_behind stacks) ∙ by (first_not_empty 0 stacks)
  where
    by : (found : Option ℕ) → option_map (popped_at ([] ∷ stacks)) (option_map suc found) ≡ option_map behind_empty (option_map (popped_at stacks) found)
    by None = refl
    by (Some cpu) = refl

-- and a stack that isn't empty gives its top
popped_first : (x : ℕ) (xs : List ℕ) (stacks : List (List ℕ)) → popped 0 ((x ∷ xs) ∷ stacks) ≡ Some (x, xs ∷ stacks)
popped_first x xs stacks =
    let all : List (List ℕ) = (x ∷ xs) ∷ stacks in
    ap (λ l. option_map (popped_at all) (find (has_top all) l)) (ring_whole (length all))
    ∙ ap (λ b. option_map (popped_at all) (cond (not b) (Some 0) (find (has_top all) (range_with_len 1 (length stacks))))) (ne_eqb (suc (length xs)) 0 (λ is. omega arith))

abbrev with_empty : List ℕ × List (List ℕ) → List ℕ × List (List ℕ)
with_empty split = (split.0, [] ∷ split.1)

spares_behind : (n : ℕ) (stacks : List (List ℕ)) → spares_popped n ([] ∷ stacks) ≡ with_empty (spares_popped n stacks)
spares_behind zero stacks = refl
spares_behind (suc n) stacks = by (popped 0 stacks) refl (spares_behind n)
  where
    by : (top : Option (ℕ × List (List ℕ))) → popped 0 stacks ≡ top → ((rest : List (List ℕ)) → spares_popped n ([] ∷ rest) ≡ with_empty (spares_popped n rest))
        → spares_popped (suc n) ([] ∷ stacks) ≡ with_empty (spares_popped (suc n) stacks)
    by None is rest =
        spares_end (suc n) ([] ∷ stacks) (popped_behind stacks ∙ ap (option_map behind_empty) is) ∙ ap with_empty (sym (spares_end (suc n) stacks is))
    by (Some top) is rest =
        spares_next n ([] ∷ stacks) (behind_empty top) (popped_behind stacks ∙ ap (option_map behind_empty) is)
        ∙ (ap (with_spare top.0) (rest top.1) ∙ ap with_empty (sym (spares_next n stacks top is)))

none_dropped : (stacks : List (List ℕ)) → dropped 0 stacks ≡ stacks
none_dropped [] = refl
none_dropped (stack ∷ stacks) =
    let none : 0 - length stack ≡ 0 = omega arith in
    ap (λ (k : ℕ). stack ∷ dropped k stacks) none ∙ ap (λ (l : List (List ℕ)). stack ∷ l) (none_dropped stacks)

take_append : (n : ℕ) (xs ys : List ℕ) → take n (xs ++ ys) ≡ take n xs ++ take (n - length xs) ys
take_append zero xs ys = let none : 0 - length xs ≡ 0 = omega arith in sym (ap (λ (k : ℕ). take k ys) none)
take_append (suc n) [] ys = let all : suc n - 0 ≡ suc n = omega arith in sym (ap (λ (k : ℕ). take k ys) all)
take_append (suc n) (x ∷ xs) ys =
    let fewer : n - length xs ≡ suc n - suc (length xs) = omega arith in
    ap (λ (l : List ℕ). x ∷ l) (take_append n xs ys) ∙ ap (λ (k : ℕ). x ∷ (take n xs ++ take k ys)) fewer

-- the spares that are popped are the first elements of all stacks
spares_are_first : (n : ℕ) (stacks : List (List ℕ)) → spares_popped n stacks ≡ split_at n stacks
spares_are_first zero stacks = λ i. ([], sym (none_dropped stacks) i)
spares_are_first (suc n) [] = spares_end (suc n) [] refl
spares_are_first (suc n) (stack ∷ stacks) = go (suc n) stack (λ m. spares_are_first m stacks)
  where
    go : (m : ℕ) (stack : List ℕ) → ((m : ℕ) → spares_popped m stacks ≡ split_at m stacks) → spares_popped m (stack ∷ stacks) ≡ split_at m (stack ∷ stacks)
    go zero stack rest = λ i. ([], sym (none_dropped (stack ∷ stacks)) i)
    go (suc m) [] rest =
        let all : suc m - 0 ≡ suc m = omega arith in
        spares_behind (suc m) stacks ∙ (ap with_empty (rest (suc m)) ∙ ap (λ (k : ℕ). (take (suc m) (concat stacks), [] ∷ dropped k stacks)) (sym all))
    go (suc m) (x ∷ xs) rest =
        let fewer : m - length xs ≡ suc m - suc (length xs) = omega arith in
        spares_next m ((x ∷ xs) ∷ stacks) (x, xs ∷ stacks) (popped_first x xs stacks)
        ∙ (ap (with_spare x) (go m xs rest) ∙ ap (λ (k : ℕ). (x ∷ take m (xs ++ concat stacks), drop m xs ∷ dropped k stacks)) fewer)

-- The stacks are the same

range_last : (a n : ℕ) → range_with_len a (suc n) ≡ range_with_len a n ++ (a + n) ∷ []
range_last a zero = ap (λ (k : ℕ). k ∷ []) (let same : a ≡ a + 0 = omega arith in same)
range_last a (suc n) =
    let same : a + 1 + n ≡ a + suc n = omega arith in
    ap (λ (l : List ℕ). a ∷ l) (range_last (a + 1) n) ∙ ap (λ (k : ℕ). a ∷ (range_with_len (a + 1) n ++ k ∷ [])) same

pushed_is : (a n : ℕ) → pushed_from a n ≡ reverse (range_with_len a n)
pushed_is a zero = refl
pushed_is a (suc n) =
    ap (λ (l : List ℕ). (a + n) ∷ l) (pushed_is a n) ∙ (sym (reverse-append (range_with_len a n) ((a + n) ∷ [])) ∙ ap reverse (sym (range_last a n)))

stack_is : (shape : Shape) (cpu : ℕ) → opening_stack shape cpu ≡ lists.opening_stack shape.elements shape.cpus cpu
unfolding opening_stack
stack_is shape cpu = pushed_is (share_first shape.elements shape.cpus cpu) (share_count shape.elements shape.cpus cpu)

stacks_are : (shape : Shape) (cpus : List ℕ) → flat_map (opening_stack shape) cpus ≡ concat (map (lists.opening_stack shape.elements shape.cpus) cpus)
stacks_are shape [] = refl
stacks_are shape (cpu ∷ cpus) = λ i. stack_is shape cpu i ++ stacks_are shape cpus i

first_spares_are : (shape : Shape) → take shape.cpus (concat (lists.opening_stacks shape.elements shape.cpus)) ≡ opening_spares shape
unfolding opening_spares
first_spares_are shape = ap (take shape.cpus) (sym (stacks_are shape (range_with_len 0 shape.cpus)))

spares_by_kind : (shape : Shape) (kind : MapKind) → kind ≡ Hash → (spares_popped (cond (has_spares kind) shape.cpus 0) (lists.opening_stacks shape.elements shape.cpus)).0 ≡ opening_spares shape
spares_by_kind shape kind hash =
    ap (λ (k : MapKind). (spares_popped (cond (has_spares k) shape.cpus 0) (lists.opening_stacks shape.elements shape.cpus)).0) hash
    ∙ (ap (λ (split : List ℕ × List (List ℕ)). split.0) (spares_are_first shape.cpus (lists.opening_stacks shape.elements shape.cpus))
    ∙ first_spares_are shape)

-- on a map of kind HASH the spares are the same
pub opening_spares_are : (shape : Shape) → shape.kind ≡ Hash → (opening shape).spares ≡ opening_spares shape
unfolding opening
opening_spares_are shape hash = spares_by_kind shape shape.kind hash
