-- A new map, as a serial run opens it and as histories begin: the same lies under each lock, and the spares are the same.
-- The one takes the spares off the stacks one after another. The other takes the first elements of all stacks for spares,
-- and leaves on each stack what is no spare.
use Rattle.std.proofs.Common.{◌≡◌, ℕ, zero, suc, ◌+◌, ◌-◌, ◌<◌, ◌≤◌, Bool, true, false, not, cond, eqb, ltb, List, [], ◌∷◌, ◌++◌, length, map, take, drop, reverse, get_or, Option, Some, None, refl, ap, sym, ◌∙◌, arith}
use Rattle.std.specs.Prelude.{◌&&◌, nat_lt, IsTrue, find, filter, option_map, replicate, sum_by}
use Rattle.std.specs.List.{concat, flat_map, range_with_len, position_from}
use Rattle.std.proofs.lemmas.Bool.{and_parts, ltb-true, ne_eqb}
use Rattle.std.proofs.lemmas.List.{reverse-append, take-append-drop}
use Rattle.std.proofs.lemmas.List.Elements.{filter_agree}
use Rattle.std.proofs.lemmas.List.FromFn.{get_or-map-range_with_len}
use Rattle.std.proofs.lemmas.List.Recursion.{is_sum_by}
use Rattle.std.proofs.lemmas.List.Sorted.{sum_by-IsPermutation}
use Rattle.std.proofs.lemmas.Iterator.Adapters.{position_from-zero}
use Rattle.map_types.specs.declared.attr.Shape.{Shape}
use Rattle.map_types.specs.declared.kind.DomainId.{DomainId}
use Rattle.map_types.specs.declared.kind.DomainId.TheVariants.{Local, Global, CpuLru, Bucket, Freelist}
use Rattle.map_types.specs.declared.kind.MapKind.{MapKind}
use Rattle.map_types.specs.declared.kind.MapKind.TheVariants.{Hash, PercpuHash, LruHash, LruPercpuHash}
use Rattle.map_types.specs.Kind.{is_lru}
use Rattle.map_types.specs.Shape.{HasBounds}
use Rattle.map_types.specs.Stored.{Stored}
use Rattle.map_types.specs.ElementLists.{one, times, IsIn}
use Rattle.map_types.proofs.RowLemmas.{times_append, by_test}
use Rattle.place_words.specs.Histories.{in_bucket, on_freelist, opening_content}
use Rattle.place_words.specs.Locks.{is_lock}
use Rattle.place_words.specs.Openings.{opening_stack, opening_spares, opening_owner, opening_free, spare_owner, is_free}
use Rattle.place_words.specs.Shares.{share_first, share_count, pushed_from}
use Rattle.place_words.proofs.ElementLemmas.{times_cons_same}
use Rattle.map_report.specs.Freelists.{stack_at, first_not_empty, popped_at, popped, spares_popped}
use Rattle.map_report.specs.Freelists as lists
use Rattle.map_report.specs.Serial.{has_spares, opening}
use Rattle.map_report.specs.Turns.{content_under}
use Rattle.serial_laws.proofs.EachOnceOpening.{opening_stacks_permute, ring_whole}
use Rattle.serial_laws.proofs.StackLemmas.{has_top, with_spare, spares_next, spares_end}

-- Pops one after another

-- the stacks without the first n elements of all
abbrev pub dropped : ℕ → List (List ℕ) → List (List ℕ)
dropped n [] = []
dropped n (stack ∷ stacks) = drop n stack ∷ dropped (n - length stack) stacks

-- these elements, and the stacks without them
abbrev pub split_at : ℕ → List (List ℕ) → List ℕ × List (List ℕ)
split_at n stacks = (take n (concat stacks), dropped n stacks)

range_up : (a n : ℕ) → range_with_len (suc a) n ≡ map suc (range_with_len a n)
range_up a zero = refl
range_up a (suc n) =
    let next : suc a + 1 ≡ suc (a + 1) = omega arith in
    ap (λ (k : ℕ). suc a ∷ range_with_len k n) next ∙ ap (λ (l : List ℕ). suc a ∷ l) (range_up (a + 1) n)

find_up : (test : ℕ → Bool) (xs : List ℕ) → find test (map suc xs) ≡ option_map suc (find (λ x. test (suc x)) xs)
find_up test [] = refl
find_up test (x ∷ xs) = by (test (suc x)) (find_up test xs)
  where
    by : (b : Bool) → find test (map suc xs) ≡ option_map suc (find (λ x. test (suc x)) xs)
        → cond b (Some (suc x)) (find test (map suc xs)) ≡ option_map suc (cond b (Some x) (find (λ x. test (suc x)) xs))
    by true rest = refl
    by false rest = rest

-- an empty stack in front is passed
found_behind : (stacks : List (List ℕ)) → first_not_empty 0 ([] ∷ stacks) ≡ option_map suc (first_not_empty 0 stacks)
found_behind stacks =
    ap (find (has_top ([] ∷ stacks))) (ring_whole (length ([] ∷ stacks)))
    ∙ (ap (find (has_top ([] ∷ stacks))) (range_up 0 (length stacks))
    ∙ (find_up (has_top ([] ∷ stacks)) (range_with_len 0 (length stacks))
    ∙ ap (λ l. option_map suc (find (has_top stacks) l)) (sym (ring_whole (length stacks)))))

abbrev behind_empty : ℕ × List (List ℕ) → ℕ × List (List ℕ)
behind_empty top = (top.0, [] ∷ top.1)

popped_behind : (stacks : List (List ℕ)) → popped 0 ([] ∷ stacks) ≡ option_map behind_empty (popped 0 stacks)
popped_behind stacks = ap (option_map (popped_at ([] ∷ stacks))) (found_behind stacks) ∙ by (first_not_empty 0 stacks)
  where
    by : (found : Option ℕ) → option_map (popped_at ([] ∷ stacks)) (option_map suc found) ≡ option_map behind_empty (option_map (popped_at stacks) found)
    by None = refl
    by (Some cpu) = refl

-- and a stack that isn't empty gives its top
popped_first : (x : ℕ) (xs : List ℕ) (stacks : List (List ℕ)) → popped 0 ((x ∷ xs) ∷ stacks) ≡ Some (x, xs ∷ stacks)
popped_first x xs stacks =
    let all : List (List ℕ) = (x ∷ xs) ∷ stacks in
    ap (λ l. option_map (popped_at all) (find (has_top all) l)) (ring_whole (length all))
    ∙ ap (λ b. option_map (popped_at all) (cond (not b) (Some 0) (find (has_top all) (range_with_len 1 (length stacks))))) (ne_eqb (suc (length xs)) 0 (λ is. omega arith))

abbrev with_empty : List ℕ × List (List ℕ) → List ℕ × List (List ℕ)
with_empty split = (split.0, [] ∷ split.1)

spares_behind : (n : ℕ) (stacks : List (List ℕ)) → spares_popped n ([] ∷ stacks) ≡ with_empty (spares_popped n stacks)
spares_behind zero stacks = refl
spares_behind (suc n) stacks = by (popped 0 stacks) refl (spares_behind n)
  where
    by : (top : Option (ℕ × List (List ℕ))) → popped 0 stacks ≡ top → ((rest : List (List ℕ)) → spares_popped n ([] ∷ rest) ≡ with_empty (spares_popped n rest))
        → spares_popped (suc n) ([] ∷ stacks) ≡ with_empty (spares_popped (suc n) stacks)
    by None is rest =
        spares_end (suc n) ([] ∷ stacks) (popped_behind stacks ∙ ap (option_map behind_empty) is) ∙ ap with_empty (sym (spares_end (suc n) stacks is))
    by (Some top) is rest =
        spares_next n ([] ∷ stacks) (behind_empty top) (popped_behind stacks ∙ ap (option_map behind_empty) is)
        ∙ (ap (with_spare top.0) (rest top.1) ∙ ap with_empty (sym (spares_next n stacks top is)))

none_dropped : (stacks : List (List ℕ)) → dropped 0 stacks ≡ stacks
none_dropped [] = refl
none_dropped (stack ∷ stacks) =
    let none : 0 - length stack ≡ 0 = omega arith in
    ap (λ (k : ℕ). stack ∷ dropped k stacks) none ∙ ap (λ (l : List (List ℕ)). stack ∷ l) (none_dropped stacks)

take_append : (n : ℕ) (xs ys : List ℕ) → take n (xs ++ ys) ≡ take n xs ++ take (n - length xs) ys
take_append zero xs ys = let none : 0 - length xs ≡ 0 = omega arith in sym (ap (λ (k : ℕ). take k ys) none)
take_append (suc n) [] ys = let all : suc n - 0 ≡ suc n = omega arith in sym (ap (λ (k : ℕ). take k ys) all)
take_append (suc n) (x ∷ xs) ys =
    let fewer : n - length xs ≡ suc n - suc (length xs) = omega arith in
    ap (λ (l : List ℕ). x ∷ l) (take_append n xs ys) ∙ ap (λ (k : ℕ). x ∷ (take n xs ++ take k ys)) fewer

-- the spares that are popped are the first elements of all stacks
pub spares_are_first : (n : ℕ) (stacks : List (List ℕ)) → spares_popped n stacks ≡ split_at n stacks
spares_are_first zero stacks = λ i. ([], sym (none_dropped stacks) i)
spares_are_first (suc n) [] = spares_end (suc n) [] refl
spares_are_first (suc n) (stack ∷ stacks) = go (suc n) stack (λ m. spares_are_first m stacks)
  where
    go : (m : ℕ) (stack : List ℕ) → ((m : ℕ) → spares_popped m stacks ≡ split_at m stacks) → spares_popped m (stack ∷ stacks) ≡ split_at m (stack ∷ stacks)
    go zero stack rest = λ i. ([], sym (none_dropped (stack ∷ stacks)) i)
    go (suc m) [] rest =
        let all : suc m - 0 ≡ suc m = omega arith in
        spares_behind (suc m) stacks ∙ (ap with_empty (rest (suc m)) ∙ ap (λ (k : ℕ). (take (suc m) (concat stacks), [] ∷ dropped k stacks)) (sym all))
    go (suc m) (x ∷ xs) rest =
        let fewer : m - length xs ≡ suc m - suc (length xs) = omega arith in
        spares_next m ((x ∷ xs) ∷ stacks) (x, xs ∷ stacks) (popped_first x xs stacks)
        ∙ (ap (with_spare x) (go m xs rest) ∙ ap (λ (k : ℕ). (x ∷ take m (xs ++ concat stacks), drop m xs ∷ dropped k stacks)) fewer)

-- How often elements stand in stacks

times_take_drop : (e n : ℕ) (xs : List ℕ) → times e xs ≡ times e (take n xs) + times e (drop n xs)
times_take_drop e n xs = ap (times e) (sym (take-append-drop n xs)) ∙ times_append e (take n xs) (drop n xs)

head_in : (x : ℕ) (xs : List ℕ) → IsIn x (x ∷ xs)
head_in x xs = let more = times_cons_same x xs in omega arith

later_in : (e x : ℕ) (xs : List ℕ) → IsIn e xs → IsIn e (x ∷ xs)
later_in e x xs some = by_test x e (λ b. 0 < cond b (suc (times e xs)) (times e xs)) (λ _. omega arith) (λ _. some)

-- a test that those taken fail, and the others pass
filter_drop : (pass : ℕ → Bool) (n : ℕ) (xs : List ℕ) → ((e : ℕ) → IsIn e (take n xs) → pass e ≡ false) → ((e : ℕ) → IsIn e (drop n xs) → pass e ≡ true)
    → filter pass xs ≡ drop n xs
filter_drop pass zero [] gone left = refl
filter_drop pass zero (x ∷ xs) gone left =
    ap (λ b. cond b (x ∷ filter pass xs) (filter pass xs)) (left x (head_in x xs))
    ∙ ap (λ (l : List ℕ). x ∷ l) (filter_drop pass zero xs gone (λ e some. left e (later_in e x xs some)))
filter_drop pass (suc n) [] gone left = refl
filter_drop pass (suc n) (x ∷ xs) gone left =
    ap (λ b. cond b (x ∷ filter pass xs) (filter pass xs)) (gone x (head_in x (take n xs)))
    ∙ filter_drop pass n xs (λ e some. gone e (later_in e x (take n xs) some)) left

abbrev pub is_out : List ℕ → ℕ → Bool
is_out taken e = eqb (times e taken) 0

-- What is left of a stack is what isn't among the first elements of all stacks, where none stands twice.
pub stack_left : (stacks : List (List ℕ)) (n k : ℕ) (taken : List ℕ) → ((e : ℕ) → times e (concat stacks) ≤ 1)
    → ((e : ℕ) → IsIn e (concat stacks) → times e taken ≡ times e (take n (concat stacks))) → stack_at (dropped n stacks) k ≡ filter (is_out taken) (stack_at stacks k)
stack_left [] n k taken once same = refl
stack_left (stack ∷ stacks) n zero taken once same =
    let rest : List ℕ = concat stacks in
    sym (filter_drop (is_out taken) n stack
    (λ e some. let parts = times_in e in let here = same e (omega (arith, parts.0, parts.1)) in ne_eqb (times e taken) 0 (λ none. omega (arith, parts.2)))
    (λ e some.
    let parts = times_in e in
    let one_at_most = once e in
    let others = times_take_drop e (n - length stack) rest in
    let here = same e (omega (arith, parts.0, parts.1)) in
    let none : times e taken ≡ 0 = omega (arith, parts.0, parts.1, parts.2) in
    ap (λ (m : ℕ). eqb m 0) none))
  where
    times_in : (e : ℕ) → (times e (stack ++ concat stacks) ≡ times e stack + times e (concat stacks)) × (times e stack ≡ times e (take n stack) + times e (drop n stack))
        × (times e (take n (stack ++ concat stacks)) ≡ times e (take n stack) + times e (take (n - length stack) (concat stacks)))
    times_in e = (
      times_append e stack (concat stacks),
      times_take_drop e n stack,
      ap (times e) (take_append n stack (concat stacks)) ∙ times_append e (take n stack) (take (n - length stack) (concat stacks)),
    )
stack_left (stack ∷ stacks) n (suc k) taken once same =
    stack_left stacks (n - length stack) k taken
    (λ e. let both = times_append e stack (concat stacks) in let one_at_most = once e in omega arith)
    (λ e some.
    let both = times_append e stack (concat stacks) in
    let one_at_most = once e in
    let parts = times_take_drop e n stack in
    let all = same e (omega arith) in
    let split = ap (times e) (take_append n stack (concat stacks)) ∙ times_append e (take n stack) (take (n - length stack) (concat stacks)) in
    omega arith)

-- No element stands twice

none_before : (e a n : ℕ) → e < a → times e (range_with_len a n) ≡ 0
none_before e a zero before = refl
none_before e a (suc n) before =
    by_test a e (λ b. cond b (suc (times e (range_with_len (a + 1) n))) (times e (range_with_len (a + 1) n)) ≡ 0)
    (λ is. absurd (omega arith))
    (λ _. none_before e (a + 1) n (omega arith))

once_in_range : (e a n : ℕ) → times e (range_with_len a n) ≤ 1
once_in_range e a zero = omega arith
once_in_range e a (suc n) =
    by_test a e (λ b. cond b (suc (times e (range_with_len (a + 1) n))) (times e (range_with_len (a + 1) n)) ≤ 1)
    (λ is. let none = none_before e (a + 1) n (omega arith) in omega arith)
    (λ _. once_in_range e (a + 1) n)

times_sum : (e : ℕ) (xs : List ℕ) → times e xs ≡ sum_by (λ x. one (eqb x e)) xs
times_sum e xs = is_sum_by (times e) (λ x. one (eqb x e)) refl (λ y ys. counts (eqb y e) (times e ys)) xs
  where
    counts : (b : Bool) (n : ℕ) → cond b (suc n) n ≡ one b + n
    counts true n = omega arith
    counts false n = omega arith

pub once_in_stacks : (elements cpus e : ℕ) → 1 ≤ cpus → times e (concat (lists.opening_stacks elements cpus)) ≤ 1
once_in_stacks elements cpus e some =
    let all : List ℕ = range_with_len 0 elements in
    let stacks : List ℕ = concat (lists.opening_stacks elements cpus) in
    let same : times e stacks ≡ times e all =
    times_sum e stacks ∙ (sum_by-IsPermutation (λ x. one (eqb x e)) all stacks (opening_stacks_permute elements cpus some) ∙ sym (times_sum e all)) in
    let one_at_most = once_in_range e 0 elements in
    omega arith

-- The stacks are the same

range_last : (a n : ℕ) → range_with_len a (suc n) ≡ range_with_len a n ++ (a + n) ∷ []
range_last a zero = ap (λ (k : ℕ). k ∷ []) (let same : a ≡ a + 0 = omega arith in same)
range_last a (suc n) =
    let same : a + 1 + n ≡ a + suc n = omega arith in
    ap (λ (l : List ℕ). a ∷ l) (range_last (a + 1) n) ∙ ap (λ (k : ℕ). a ∷ (range_with_len (a + 1) n ++ k ∷ [])) same

pushed_is : (a n : ℕ) → pushed_from a n ≡ reverse (range_with_len a n)
pushed_is a zero = refl
pushed_is a (suc n) =
    ap (λ (l : List ℕ). (a + n) ∷ l) (pushed_is a n) ∙ (sym (reverse-append (range_with_len a n) ((a + n) ∷ [])) ∙ ap reverse (sym (range_last a n)))

pub stack_is : (shape : Shape) (cpu : ℕ) → opening_stack shape cpu ≡ lists.opening_stack shape.elements shape.cpus cpu
unfolding opening_stack
stack_is shape cpu = pushed_is (share_first shape.elements shape.cpus cpu) (share_count shape.elements shape.cpus cpu)

stacks_are : (shape : Shape) (cpus : List ℕ) → flat_map (opening_stack shape) cpus ≡ concat (map (lists.opening_stack shape.elements shape.cpus) cpus)
stacks_are shape [] = refl
stacks_are shape (cpu ∷ cpus) = λ i. stack_is shape cpu i ++ stacks_are shape cpus i

stack_there : (shape : Shape) (cpu : ℕ) → cpu < shape.cpus → stack_at (lists.opening_stacks shape.elements shape.cpus) cpu ≡ opening_stack shape cpu
stack_there shape cpu within =
    get_or-map-range_with_len (lists.opening_stack shape.elements shape.cpus) 0 shape.cpus cpu cpu [] within (omega arith) ∙ sym (stack_is shape cpu)

-- Spares

first_spares_are : (shape : Shape) → take shape.cpus (concat (lists.opening_stacks shape.elements shape.cpus)) ≡ opening_spares shape
unfolding opening_spares
first_spares_are shape = ap (take shape.cpus) (sym (stacks_are shape (range_with_len 0 shape.cpus)))

spares_by_kind : (shape : Shape) (kind : MapKind) → kind ≡ Hash → (spares_popped (cond (has_spares kind) shape.cpus 0) (lists.opening_stacks shape.elements shape.cpus)).0 ≡ opening_spares shape
spares_by_kind shape kind hash =
    ap (λ (k : MapKind). (spares_popped (cond (has_spares k) shape.cpus 0) (lists.opening_stacks shape.elements shape.cpus)).0) hash
    ∙ (ap (λ (split : List ℕ × List (List ℕ)). split.0) (spares_are_first shape.cpus (lists.opening_stacks shape.elements shape.cpus))
    ∙ first_spares_are shape)

-- on a map of kind HASH the spares are the same
pub opening_spares_are : (shape : Shape) → HasBounds shape → shape.kind ≡ Hash → (opening shape).spares ≡ opening_spares shape
unfolding opening
opening_spares_are shape bounds hash = spares_by_kind shape shape.kind hash

-- and one of kind PERCPU_HASH has none
pub no_opening_spares : (shape : Shape) → shape.kind ≡ PercpuHash → (opening shape).spares ≡ []
unfolding opening
no_opening_spares shape percpu = ap (λ (k : MapKind). (spares_popped (cond (has_spares k) shape.cpus 0) (lists.opening_stacks shape.elements shape.cpus)).0) percpu

-- an element is free unless it is a spare
free_unless_spare : (e b : ℕ) (xs : List ℕ) → is_free (spare_owner (position_from (λ x. eqb x e) b xs)) ≡ is_out xs e
free_unless_spare e b [] = refl
free_unless_spare e b (x ∷ xs) =
    by_test x e (λ t. is_free (spare_owner (cond t (Some b) (position_from (λ y. eqb y e) (b + 1) xs))) ≡ eqb (cond t (suc (times e xs)) (times e xs)) 0)
    (λ _. sym (ne_eqb (suc (times e xs)) 0 (λ is. omega arith)))
    (λ _. free_unless_spare e (b + 1) xs)

all_pass : (test : ℕ → Bool) (xs : List ℕ) → ((e : ℕ) → test e ≡ true) → filter test xs ≡ xs
all_pass test [] pass = refl
all_pass test (x ∷ xs) pass = ap (λ b. cond b (x ∷ filter test xs) (filter test xs)) (pass x) ∙ ap (λ (l : List ℕ). x ∷ l) (all_pass test xs pass)

-- what is left on a CPU's stack is what is free there
left_by_kind : (shape : Shape) (kind : MapKind) (cpu : ℕ) → 1 ≤ shape.cpus → is_lru kind ≡ false → cpu < shape.cpus
    → stack_at (spares_popped (cond (has_spares kind) shape.cpus 0) (lists.opening_stacks shape.elements shape.cpus)).1 cpu ≡ filter (λ e. is_free (opening_owner shape kind e)) (opening_stack shape cpu)
unfolding opening_owner
left_by_kind shape Hash cpu some built within =
    let stacks : List (List ℕ) = lists.opening_stacks shape.elements shape.cpus in
    ap (λ (split : List ℕ × List (List ℕ)). stack_at split.1 cpu) (spares_are_first shape.cpus stacks)
    ∙ (stack_left stacks shape.cpus cpu (opening_spares shape) (λ e. once_in_stacks shape.elements shape.cpus e some) (λ e there. ap (times e) (sym (first_spares_are shape)))
    ∙ (ap (filter (is_out (opening_spares shape))) (stack_there shape cpu within)
    ∙ filter_agree (is_out (opening_spares shape)) (λ e. is_free (opening_owner shape Hash e))
    (λ e. sym (ap (λ (found : Option ℕ). is_free (spare_owner found)) (position_from-zero (λ x. eqb x e) (opening_spares shape)) ∙ free_unless_spare e 0 (opening_spares shape))) (opening_stack shape cpu)))
left_by_kind shape PercpuHash cpu some built within =
    stack_there shape cpu within ∙ sym (all_pass (λ e. is_free (opening_owner shape PercpuHash e)) (opening_stack shape cpu) (λ e. refl))
left_by_kind shape LruHash cpu some built within = cc
left_by_kind shape LruPercpuHash cpu some built within = cc

-- Locks

no_bodies : (n bucket : ℕ) → get_or {A = List Stored} (replicate n []) bucket [] ≡ []
no_bodies zero bucket = refl
no_bodies (suc n) zero = refl
no_bodies (suc n) (suc bucket) = no_bodies n bucket

-- a map that doesn't evict shares no lists
pub not_common : (shape : Shape) → HasBounds shape → is_lru shape.kind ≡ false → shape.common ≡ false
not_common shape bounds plain = by shape.common refl
  where
    by : (b : Bool) → shape.common ≡ b → shape.common ≡ false
    by true common = let lru = bounds.common_evicts common in absurd cc
    by false own = own

-- a map whose CPUs share no lists has no local ones
pub no_local : (shape : Shape) (cpu : ℕ) → shape.common ≡ false → is_lock shape (Local cpu) ≡ false
no_local shape cpu own = ap (λ (b : Bool). b && ltb cpu shape.cpus) own

-- no CPU of a map that doesn't evict has a list set of its own
pub no_set : (shape : Shape) (cpu : ℕ) → is_lru shape.kind ≡ false → is_lock shape (CpuLru cpu) ≡ false
no_set shape cpu plain = ap (λ (b : Bool). (b && not shape.common) && nat_lt cpu shape.cpus) plain

-- the same lies under each lock at first
pub opening_lies : (shape : Shape) → HasBounds shape → is_lru shape.kind ≡ false → (lock : DomainId) → IsTrue (is_lock shape lock) → content_under (opening shape) lock ≡ opening_content shape lock
unfolding opening opening_free
opening_lies shape bounds built (Local cpu) there = let gone = no_local shape cpu (not_common shape bounds built) in absurd cc
opening_lies shape bounds built Global there = let gone = not_common shape bounds built in absurd cc
opening_lies shape bounds built (CpuLru cpu) there = let gone = no_set shape cpu built in absurd cc
opening_lies shape bounds built (Bucket bucket) there = ap in_bucket (no_bodies shape.buckets bucket)
opening_lies shape bounds built (Freelist cpu) there =
    let within : cpu < shape.cpus = ltb-true cpu shape.cpus (and_parts (not (is_lru shape.kind)) _ there).1 in
    ap on_freelist (left_by_kind shape shape.kind cpu bounds.some_cpu built within
    ∙ ap (λ b. cond b (filter (λ e. is_free (opening_owner shape shape.kind e)) (opening_stack shape cpu)) []) (sym there))
