-- Lists in other orders: over what is set, taken out, popped and pushed.
use Rattle.std.proofs.Common.{◌≡◌, ℕ, zero, suc, ◌<◌, Bool, true, false, not, eqb, List, [], ◌∷◌, ◌++◌, length, map, drop, get_or, set, Option, Some, None, IsPermutation, refl, sym, ap, ◌∙◌, subst, inl, inr, arith, append_assoc}
use Rattle.std.specs.Prelude.{find, remove, option_map}
use Rattle.std.specs.List.{concat, flat_map, before_first, after_first}
use Rattle.std.proofs.lemmas.Bool.{cases_lt}
use Rattle.std.proofs.lemmas.Bool.Decides.{nat_tests}
use Rattle.std.proofs.lemmas.List.{map-append, set-get_or, get_or-set_same, get_or_past, length-set}
use Rattle.std.proofs.lemmas.List.Concat.{concat_is}
use Rattle.std.proofs.lemmas.List.Sorted.{IsPermutation-refl, IsPermutation-sym, IsPermutation-trans, IsPermutation-cons, IsPermutation-append, IsPermutation-append_left, IsPermutation-append_right, IsPermutation-append_comm, IsPermutation-middle, IsPermutation-map, IsPermutation-remove}
use Rattle.std.proofs.lemmas.Option.{none-some, same_Some}
use Rattle.place_words.proofs.Splits.{find_passes, find_splits}
use Rattle.map_types.specs.Stored.{Stored}
use Rattle.map_report.specs.Freelists.{stack_at, first_not_empty, popped_at, popped, pushed}

-- Orders

pub permutes_same : {X : Type 0} (xs ys : List X) → xs ≡ ys → IsPermutation xs ys
permutes_same xs ys same = subst (IsPermutation xs) same (IsPermutation-refl xs)

pub permutes_past : {X : Type 0} (xs ys zs : List X) → IsPermutation (xs ++ (ys ++ zs)) (ys ++ (xs ++ zs))
permutes_past xs ys zs =
    subst (λ l. IsPermutation l (ys ++ (xs ++ zs))) (append_assoc xs ys zs)
    (subst (λ l. IsPermutation ((xs ++ ys) ++ zs) l) (append_assoc ys xs zs) (IsPermutation-append_left zs (xs ++ ys) (ys ++ xs) (IsPermutation-append_comm xs ys)))

pub permutes_two : {X : Type 0} (x y : X) (zs : List X) → IsPermutation (x ∷ y ∷ zs) (y ∷ x ∷ zs)
permutes_two x y zs = permutes_past (x ∷ []) (y ∷ []) zs

-- One list of many is another

-- what f gives of all but the one at a place
abbrev pub others : {X : Type 0} → (X → List ℕ) → List X → ℕ → List ℕ
others f [] i = []
others f (x ∷ xs) zero = flat_map f xs
others f (x ∷ xs) (suc i) = f x ++ others f xs i

pub flat_map_set : {X : Type 0} (f : X → List ℕ) (xs : List X) (i : ℕ) (y : X) → i < length xs → IsPermutation (flat_map f (set xs i y)) (f y ++ others f xs i)
flat_map_set f [] i y within = absurd (omega arith)
flat_map_set f (x ∷ xs) zero y within = IsPermutation-refl (f y ++ flat_map f xs)
flat_map_set f (x ∷ xs) (suc i) y within =
    IsPermutation-trans _ _ _ (IsPermutation-append_right (f x) _ _ (flat_map_set f xs i y (omega arith)))
    (permutes_past (f x) (f y) (others f xs i))

-- one that has one element more
pub flat_map_set_more : {X : Type 0} (f : X → List ℕ) (xs : List X) (i : ℕ) (y z : X) (e : ℕ) → i < length xs → IsPermutation (f y) (e ∷ f z)
    → IsPermutation (flat_map f (set xs i y)) (e ∷ flat_map f (set xs i z))
flat_map_set_more f xs i y z e within more =
    IsPermutation-trans _ _ _ (flat_map_set f xs i y within)
    (IsPermutation-trans _ _ _ (IsPermutation-append_left (others f xs i) (f y) (e ∷ f z) more)
    (IsPermutation-cons e _ _ (IsPermutation-sym _ _ (flat_map_set f xs i z within))))

-- one with the same elements
pub flat_map_set_same : {X : Type 0} (f : X → List ℕ) (xs : List X) (i : ℕ) (y z : X) → i < length xs → IsPermutation (f y) (f z)
    → IsPermutation (flat_map f (set xs i y)) (flat_map f (set xs i z))
flat_map_set_same f xs i y z within same =
    IsPermutation-trans _ _ _ (flat_map_set f xs i y within)
    (IsPermutation-trans _ _ _ (IsPermutation-append_left (others f xs i) (f y) (f z) same)
    (IsPermutation-sym _ _ (flat_map_set f xs i z within)))

-- the same of lists that are joined
pub concat_set_more : (xss : List (List ℕ)) (i : ℕ) (ys zs : List ℕ) (e : ℕ) → i < length xss → IsPermutation ys (e ∷ zs) → IsPermutation (concat (set xss i ys)) (e ∷ concat (set xss i zs))
concat_set_more xss i ys zs e within more =
    subst (λ l. IsPermutation l (e ∷ concat (set xss i zs))) (sym (concat_is (set xss i ys)))
    (subst (λ l. IsPermutation (flat_map (λ x. x) (set xss i ys)) (e ∷ l)) (sym (concat_is (set xss i zs))) (flat_map_set_more (λ x. x) xss i ys zs e within more))

-- Stacks

-- a push
pub pushed_permutes : (cpu element : ℕ) (stacks : List (List ℕ)) → cpu < length stacks → IsPermutation (concat (pushed cpu element stacks)) (element ∷ concat stacks)
pushed_permutes cpu element stacks within =
    subst (λ l. IsPermutation (concat (pushed cpu element stacks)) (element ∷ concat l)) (set-get_or stacks cpu [])
    (concat_set_more stacks cpu (element ∷ get_or stacks cpu []) (get_or stacks cpu []) element within (IsPermutation-refl (element ∷ get_or stacks cpu [])))

-- a list that has an element is its first and the rest
first_rest : (xs : List ℕ) → 0 < length xs → xs ≡ get_or xs 0 0 ∷ drop 1 xs
first_rest [] some = absurd (omega arith)
first_rest (x ∷ xs) some = refl

pub popped_at_permutes : (stacks : List (List ℕ)) (cpu : ℕ) → cpu < length stacks → 0 < length (stack_at stacks cpu) → IsPermutation (concat stacks) ((popped_at stacks cpu).0 ∷ concat (popped_at stacks cpu).1)
popped_at_permutes stacks cpu within some =
    subst (λ l. IsPermutation (concat l) ((popped_at stacks cpu).0 ∷ concat (popped_at stacks cpu).1)) (set-get_or stacks cpu [])
    (concat_set_more stacks cpu (get_or stacks cpu []) (drop 1 (get_or stacks cpu [])) (get_or (get_or stacks cpu []) 0 0) within
    (permutes_same (get_or stacks cpu []) (get_or (get_or stacks cpu []) 0 0 ∷ drop 1 (get_or stacks cpu [])) (first_rest (get_or stacks cpu []) some)))

-- what the test of a stack says
pub some_there : (n : ℕ) → not (eqb n 0) ≡ true → 0 < n
some_there n test = grind (arith, nat_tests)

pub none_there : (n : ℕ) → not (eqb n 0) ≡ false → n ≡ 0
none_there n test = grind (arith, nat_tests)

pub stack_within : (stacks : List (List ℕ)) (cpu : ℕ) → 0 < length (stack_at stacks cpu) → cpu < length stacks
stack_within stacks cpu some =
    elim (cases_lt cpu (length stacks)) [
      | inl within ↦ within
      | inr past ↦ let empty : length (get_or stacks cpu []) ≡ 0 = ap length (get_or_past stacks cpu [] past) in absurd (omega arith)
    ]

-- what a pop leaves, and that it is where it was
pub record IsPop (stacks : List (List ℕ)) (top : ℕ × List (List ℕ)) : Type 0 where
  pub permutes : IsPermutation (concat stacks) (top.0 ∷ concat top.1)
  pub stacks_kept : length top.1 ≡ length stacks

pop_found : (stacks : List (List ℕ)) (found : Option ℕ) (top : ℕ × List (List ℕ)) → ((cpu : ℕ) → found ≡ Some cpu → 0 < length (stack_at stacks cpu)) → option_map (popped_at stacks) found ≡ Some top → IsPop stacks top
pop_found stacks None top some is = absurd (none-some top is)
pop_found stacks (Some cpu) top some is =
    subst (IsPop stacks) (same_Some (popped_at stacks cpu) top is) record {
      permutes = popped_at_permutes stacks cpu (stack_within stacks cpu (some cpu refl)) (some cpu refl);
      stacks_kept = length-set stacks cpu (drop 1 (stack_at stacks cpu));
    }

pub popped_is : (cpu : ℕ) (stacks : List (List ℕ)) (top : ℕ × List (List ℕ)) → popped cpu stacks ≡ Some top → IsPop stacks top
popped_is cpu stacks top is =
    pop_found stacks (first_not_empty cpu stacks) top (λ c found. some_there (length (stack_at stacks c)) (find_passes (λ c. not (eqb (length (stack_at stacks c)) 0)) _ c found)) is

-- Buckets

pub find_permutes : {X : Type 0} (test : X → Bool) (xs : List X) (x : X) → find test xs ≡ Some x → IsPermutation xs (x ∷ (before_first test xs ++ after_first test xs))
find_permutes test xs x found =
    subst (λ l. IsPermutation l (x ∷ (before_first test xs ++ after_first test xs))) (sym (find_splits test xs x found))
    (IsPermutation-middle (before_first test xs) x (after_first test xs))

-- the elements of a bucket
abbrev pub numbers : List Stored → List ℕ
numbers bucket = map (λ (stored : Stored). stored.element) bucket

-- one more at the head of a bucket
pub added_permutes : (buckets : List (List Stored)) (i : ℕ) (new : Stored) (rest : List Stored) → i < length buckets
    → IsPermutation (flat_map numbers (set buckets i (new ∷ rest))) (new.element ∷ flat_map numbers (set buckets i rest))
added_permutes buckets i new rest within =
    flat_map_set_more numbers buckets i (new ∷ rest) rest new.element within (IsPermutation-refl (new.element ∷ numbers rest))

-- the same of the bucket that was there
pub grown_permutes : (buckets : List (List Stored)) (i : ℕ) (new : Stored) → i < length buckets
    → IsPermutation (flat_map numbers (set buckets i (new ∷ get_or buckets i []))) (new.element ∷ flat_map numbers buckets)
grown_permutes buckets i new within =
    subst (λ l. IsPermutation (flat_map numbers (set buckets i (new ∷ get_or buckets i []))) (new.element ∷ flat_map numbers l)) (set-get_or buckets i [])
    (added_permutes buckets i new (get_or buckets i []) within)

-- one is taken out
pub taken_permutes : (buckets : List (List Stored)) (i : ℕ) (test : Stored → Bool) (old : Stored) → i < length buckets → find test (get_or buckets i []) ≡ Some old
    → IsPermutation (flat_map numbers buckets) (old.element ∷ flat_map numbers (set buckets i (before_first test (get_or buckets i []) ++ after_first test (get_or buckets i []))))
taken_permutes buckets i test old within found =
    let bucket : List Stored = get_or buckets i [] in
    let rest : List Stored = before_first test bucket ++ after_first test bucket in
    subst (λ l. IsPermutation (flat_map numbers l) (old.element ∷ flat_map numbers (set buckets i rest))) (set-get_or buckets i [])
    (flat_map_set_more numbers buckets i bucket rest old.element within
    (IsPermutation-map (λ (stored : Stored). stored.element) bucket (old ∷ rest) (find_permutes test bucket old found)))

-- one is written in place
pub written_permutes : (buckets : List (List Stored)) (i : ℕ) (test : Stored → Bool) (old new : Stored) → i < length buckets → find test (get_or buckets i []) ≡ Some old → new.element ≡ old.element
    → IsPermutation (flat_map numbers buckets) (flat_map numbers (set buckets i (before_first test (get_or buckets i []) ++ new ∷ after_first test (get_or buckets i []))))
written_permutes buckets i test old new within found same =
    let bucket : List Stored = get_or buckets i [] in
    let front : List Stored = before_first test bucket in
    let back : List Stored = after_first test bucket in
    let equal : numbers bucket ≡ numbers (front ++ new ∷ back) =
    ap numbers (find_splits test bucket old found) ∙ map-append (λ (stored : Stored). stored.element) front (old ∷ back)
    ∙ ap (λ e. numbers front ++ e ∷ numbers back) (sym same) ∙ sym (map-append (λ (stored : Stored). stored.element) front (new ∷ back)) in
    subst (λ l. IsPermutation (flat_map numbers l) (flat_map numbers (set buckets i (front ++ new ∷ back)))) (set-get_or buckets i [])
    (flat_map_set_same numbers buckets i bucket (front ++ new ∷ back) within (permutes_same (numbers bucket) (numbers (front ++ new ∷ back)) equal))

-- Spares

-- one spare is another
pub spare_there : (spares : List ℕ) (cpu : ℕ) → cpu < length spares → IsPermutation spares (get_or spares cpu 0 ∷ remove spares cpu)
spare_there spares cpu within =
    IsPermutation-remove spares cpu (get_or spares cpu 0) within (default_itself spares cpu within)
  where
    default_itself : (xs : List ℕ) (i : ℕ) → i < length xs → get_or xs i 0 ≡ get_or xs i (get_or xs i 0)
    default_itself [] i inside = absurd (omega arith)
    default_itself (x ∷ xs) zero inside = refl
    default_itself (x ∷ xs) (suc i) inside = default_itself xs i (omega arith)

-- what is set at a place goes with it
remove-set : (xs : List ℕ) (i y : ℕ) → remove (set xs i y) i ≡ remove xs i
remove-set [] i y = refl
remove-set (x ∷ xs) zero y = refl
remove-set (x ∷ xs) (suc i) y = ap (λ rest. x ∷ rest) (remove-set xs i y)

pub spare_set : (spares : List ℕ) (cpu element : ℕ) → cpu < length spares → IsPermutation (set spares cpu element) (element ∷ remove spares cpu)
spare_set spares cpu element within =
    let long : length (set spares cpu element) ≡ length spares = length-set spares cpu element in
    subst (λ l. IsPermutation (set spares cpu element) (element ∷ l)) (remove-set spares cpu element)
    (IsPermutation-remove (set spares cpu element) cpu element (omega arith) (sym (get_or-set_same spares cpu element element within)))

-- Elements that change place

-- none does
pub stays : (b c f s : List ℕ) → IsPermutation b c → IsPermutation ((b ++ f) ++ s) ((c ++ f) ++ s)
stays b c f s same = IsPermutation-append_left s (b ++ f) (c ++ f) (IsPermutation-append_left f b c same)

-- one comes from a freelist into a bucket
pub comes_in : (b c f g s : List ℕ) (e : ℕ) → IsPermutation f (e ∷ g) → IsPermutation c (e ∷ b) → IsPermutation ((b ++ f) ++ s) ((c ++ g) ++ s)
comes_in b c f g s e out into =
    IsPermutation-append_left s (b ++ f) (c ++ g)
    (IsPermutation-trans _ _ _ (IsPermutation-append_right b f (e ∷ g) out)
    (IsPermutation-trans _ _ _ (IsPermutation-middle b e g)
    (IsPermutation-append_left g (e ∷ b) c (IsPermutation-sym c (e ∷ b) into))))

-- one goes from a bucket to a freelist
pub goes_out : (b c f g s : List ℕ) (e : ℕ) → IsPermutation b (e ∷ c) → IsPermutation g (e ∷ f) → IsPermutation ((b ++ f) ++ s) ((c ++ g) ++ s)
goes_out b c f g s e out into = IsPermutation-sym _ _ (comes_in c b g f s e into out)

-- a spare comes into a bucket, and one from there is the spare
pub changes_places : (b c r f s t q : List ℕ) (e d : ℕ) → IsPermutation b (e ∷ r) → IsPermutation c (d ∷ r) → IsPermutation s (d ∷ q) → IsPermutation t (e ∷ q)
    → IsPermutation ((b ++ f) ++ s) ((c ++ f) ++ t)
changes_places b c r f s t q e d out into from to =
    IsPermutation-trans _ _ _ (two b s e d out from)
    (IsPermutation-trans _ _ _ (permutes_two e d ((r ++ f) ++ q)) (IsPermutation-sym _ _ (two c t d e into to)))
  where
    two : (x y : List ℕ) (m n : ℕ) → IsPermutation x (m ∷ r) → IsPermutation y (n ∷ q) → IsPermutation ((x ++ f) ++ y) (m ∷ n ∷ ((r ++ f) ++ q))
    two x y m n p o =
        IsPermutation-trans _ _ _ (IsPermutation-append (x ++ f) ((m ∷ r) ++ f) y (n ∷ q) (IsPermutation-append_left f x (m ∷ r) p) o)
        (IsPermutation-cons m _ _ (IsPermutation-middle (r ++ f) n q))
