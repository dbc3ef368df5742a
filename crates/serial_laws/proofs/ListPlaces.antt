-- Lists by what stands at their places.
use Rattle.std.proofs.Common.{◌≡◌, ◌≢◌, ℕ, zero, suc, ◌+◌, ◌<◌, ◌≤◌, Bool, true, false, cond, List, [], ◌∷◌, ◌++◌, length, map, Some, refl, ap, sym, ◌∙◌, ◌⊎◌, inl, inr, subst, arith}
use Rattle.std.specs.Prelude.{filter, slice_get, All}
use Rattle.std.specs.List.{range_with_len, AllByRecursion}
use Rattle.std.proofs.lemmas.Bool.{cases_eq}
use Rattle.std.proofs.lemmas.List.FromFn.{length-map-range_with_len, get_or-map-range_with_len}
use Rattle.std.proofs.lemmas.Option.{none-some, same_Some, slice_get-get_or, slice_get_within, get_or_from_slice_get}
use Rattle.std.proofs.lemmas.List.Elements.{All-nil, All-cons, All-head, All-tail, All-get_or, All-from_recursion}
use Rattle.serial_laws.proofs.HistoryTurns.{by_bool}

-- What stands at a place

pub stands : {X : Type 0} (xs : List X) (i : ℕ) → i < length xs → (x : X) × (slice_get xs i ≡ Some x)
stands [] i within = absurd (omega arith)
stands (x ∷ xs) zero within = (x, refl)
stands (x ∷ xs) (suc i) within = stands xs i (omega arith)

-- what holds of all holds of what stands at a place
pub all_at : {X : Type 0} (P : X → Type 0) (xs : List X) → All P xs → (i : ℕ) (x : X) → slice_get xs i ≡ Some x → P x
all_at P xs all i x is = subst P (get_or_from_slice_get xs i x x is) (All-get_or P xs i x (slice_get_within xs i x is) all)

-- and what holds of what stands at each place holds of all
pub all_standing : {X : Type 0} (P : X → Type 0) (xs : List X) → ((i : ℕ) (x : X) → slice_get xs i ≡ Some x → P x) → AllByRecursion P xs
all_standing P [] holds = tt
all_standing P (x ∷ xs) holds = (holds 0 x refl, all_standing P xs (λ i y is. holds (suc i) y is))

pub all_from : {X : Type 0} (P : X → Type 0) (xs : List X) → ((i : ℕ) (x : X) → slice_get xs i ≡ Some x → P x) → All P xs
all_from P xs holds = All-from_recursion P xs (all_standing P xs holds)

-- One list behind another

-- what holds of all of both holds of all of each
pub all_in_both : {X : Type 0} (P : X → Type 0) (xs ys : List X) → All P (xs ++ ys) → All P xs × All P ys
all_in_both P [] ys all = (All-nil P, all)
all_in_both P (x ∷ xs) ys all =
    let rest = all_in_both P xs ys (All-tail P x (xs ++ ys) all) in
    (All-cons P x xs (All-head P x (xs ++ ys) all) rest.0, rest.1)

-- what stands in both stands in one of them
pub in_either : {X : Type 0} (xs ys : List X) (n : ℕ) (x : X) → slice_get (xs ++ ys) n ≡ Some x → (slice_get xs n ≡ Some x) ⊎ ((j : ℕ) × (n ≡ length xs + j) × (slice_get ys j ≡ Some x))
in_either [] ys n x is = inr (n, (let same : n ≡ 0 + n = omega arith in same), is)
in_either (y ∷ xs) ys zero x is = inl is
in_either (y ∷ xs) ys (suc n) x is =
    elim (in_either xs ys n x is) [
      | inl first ↦ inl first
      | inr later ↦ inr (later.0, (let at = later.1 in omega (arith, at)), later.2)
    ]

pub in_first : {X : Type 0} (xs ys : List X) (n : ℕ) (x : X) → slice_get xs n ≡ Some x → slice_get (xs ++ ys) n ≡ Some x
in_first [] ys n x is = absurd (none-some x is)
in_first (y ∷ xs) ys zero x is = is
in_first (y ∷ xs) ys (suc n) x is = in_first xs ys n x is

pub in_second : {X : Type 0} (xs ys : List X) (n j : ℕ) (x : X) → n ≡ length xs + j → slice_get ys j ≡ Some x → slice_get (xs ++ ys) n ≡ Some x
in_second [] ys n j x at is = let same : n ≡ j = omega (arith, at) in ap (slice_get ys) same ∙ is
in_second (y ∷ xs) ys zero j x at is = absurd (omega (arith, at))
in_second (y ∷ xs) ys (suc n) j x at is = in_second xs ys n j x (omega (arith, at)) is

-- What is made of a list

-- what stands in what was made of a list was made of what stands there
pub mapped_there : {X Y : Type 0} (f : X → Y) (xs : List X) (n : ℕ) (y : Y) → slice_get (map f xs) n ≡ Some y → (x : X) × (slice_get xs n ≡ Some x) × (f x ≡ y)
mapped_there f [] n y is = absurd (none-some y is)
mapped_there f (x ∷ xs) zero y is = (x, refl, same_Some (f x) y is)
mapped_there f (x ∷ xs) (suc n) y is = mapped_there f xs n y is

-- What a filter keeps

-- what a filter kept stands in the list
pub kept_stands : {X : Type 0} (test : X → Bool) (xs : List X) (m : ℕ) (x : X) → slice_get (filter test xs) m ≡ Some x → (n : ℕ) × (slice_get xs n ≡ Some x)
kept_stands test [] m x is = absurd (none-some x is)
kept_stands {X} test (y ∷ ys) m x is =
    by_bool (test y) (λ b. slice_get (cond b (y ∷ filter test ys) (filter test ys)) m ≡ Some x → (n : ℕ) × (slice_get (y ∷ ys) n ≡ Some x))
    (λ _. first m (λ k. kept_stands test ys k x))
    (λ _ found. let rest = kept_stands test ys m x found in (suc rest.0, rest.1)) is
  where
    first : (k : ℕ) → ((j : ℕ) → slice_get (filter test ys) j ≡ Some x → (n : ℕ) × (slice_get ys n ≡ Some x)) → slice_get (y ∷ filter test ys) k ≡ Some x → (n : ℕ) × (slice_get (y ∷ ys) n ≡ Some x)
    first zero more found = (0, found)
    first (suc k) more found = let rest = more k found in (suc rest.0, rest.1)

-- and what passes is kept
pub passing_kept : {X : Type 0} (test : X → Bool) (xs : List X) (n : ℕ) (x : X) → slice_get xs n ≡ Some x → test x ≡ true → (m : ℕ) × (slice_get (filter test xs) m ≡ Some x)
passing_kept test [] n x is passes = absurd (none-some x is)
passing_kept test (y ∷ ys) zero x is passes =
    (0, ap (λ b. slice_get (cond b (y ∷ filter test ys) (filter test ys)) 0) (ap test (same_Some y x is) ∙ passes) ∙ is)
passing_kept test (y ∷ ys) (suc n) x is passes =
    let rest = passing_kept test ys n x is passes in
    by_bool (test y) (λ b. (m : ℕ) × (slice_get (cond b (y ∷ filter test ys) (filter test ys)) m ≡ Some x)) (λ _. (suc rest.0, rest.1)) (λ _. rest)

-- what passes one test passes another
pub filter_through : {X : Type 0} (test other : X → Bool) (xs : List X) → ((x : X) → test x ≡ true → other x ≡ true) → filter test xs ≡ filter test (filter other xs)
filter_through test other [] through = refl
filter_through test other (x ∷ xs) through =
    let rest = filter_through test other xs through in
    by_bool (test x) (λ b. test x ≡ b → cond b (x ∷ filter test xs) (filter test xs) ≡ filter test (cond (other x) (x ∷ filter other xs) (filter other xs)))
    (λ passes is. ap (λ l. x ∷ l) rest
    ∙ sym (ap (λ b. filter test (cond b (x ∷ filter other xs) (filter other xs))) (through x passes) ∙ ap (λ b. cond b (x ∷ filter test (filter other xs)) (filter test (filter other xs))) is))
    (λ fails is. rest ∙ by_bool (other x) (λ b. filter test (filter other xs) ≡ filter test (cond b (x ∷ filter other xs) (filter other xs)))
    (λ _. sym (ap (λ b. cond b (x ∷ filter test (filter other xs)) (filter test (filter other xs))) is)) (λ _. refl))
    refl

-- Numbers that pass a test

pub none_pass : (test : ℕ → Bool) (a n : ℕ) → ((e : ℕ) → a ≤ e → e < a + n → test e ≡ false) → filter test (range_with_len a n) ≡ []
none_pass test a zero fails = refl
none_pass test a (suc n) fails =
    ap (λ b. cond b (a ∷ filter test (range_with_len (a + 1) n)) (filter test (range_with_len (a + 1) n))) (fails a (omega arith) (omega arith))
    ∙ none_pass test (a + 1) n (λ e low high. fails e (omega arith) (omega arith))

pub all_pass : (test : ℕ → Bool) (a n : ℕ) → ((e : ℕ) → a ≤ e → e < a + n → test e ≡ true) → filter test (range_with_len a n) ≡ range_with_len a n
all_pass test a zero passes = refl
all_pass test a (suc n) passes =
    ap (λ b. cond b (a ∷ filter test (range_with_len (a + 1) n)) (filter test (range_with_len (a + 1) n))) (passes a (omega arith) (omega arith))
    ∙ ap (λ rest. a ∷ rest) (all_pass test (a + 1) n (λ e low high. passes e (omega arith) (omega arith)))

-- Numbers below a bound

-- one number more
range_more : (a n : ℕ) → range_with_len a (suc n) ≡ range_with_len a n ++ (a + n) ∷ []
range_more a zero = let here : a ≡ a + 0 = omega arith in ap (λ (k : ℕ). k ∷ []) here
range_more a (suc n) =
    let last : a + 1 + n ≡ a + suc n = omega arith in
    ap (λ (l : List ℕ). a ∷ l) (range_more (a + 1) n ∙ ap (λ (k : ℕ). range_with_len (a + 1) n ++ k ∷ []) last)

pub next_below : (n : ℕ) → range_with_len 0 (suc n) ≡ range_with_len 0 n ++ n ∷ []
next_below n =
    let same : 0 + n ≡ n = omega arith in
    range_more 0 n ∙ ap (λ (k : ℕ). range_with_len 0 n ++ k ∷ []) same

pub made_at : {X : Type 0} (f : ℕ → X) (count n : ℕ) (x : X) → slice_get (map f (range_with_len 0 count)) n ≡ Some x → (n < count) × (x ≡ f n)
made_at f count n x is =
    let within = slice_get_within (map f (range_with_len 0 count)) n x is in
    let long = length-map-range_with_len f 0 count in
    let below : n < count = omega arith in
    (below, sym (get_or_from_slice_get (map f (range_with_len 0 count)) n x x is) ∙ get_or-map-range_with_len f 0 count n n x below (omega arith))

pub made_there : {X : Type 0} (f : ℕ → X) (count n : ℕ) → n < count → slice_get (map f (range_with_len 0 count)) n ≡ Some (f n)
made_there f count n below =
    let long = length-map-range_with_len f 0 count in
    slice_get-get_or (map f (range_with_len 0 count)) n (f n) (omega arith) ∙ ap Some (get_or-map-range_with_len f 0 count n n (f n) below (omega arith))

pub made_same : {X : Type 0} (f g : ℕ → X) (a n : ℕ) → ((k : ℕ) → a ≤ k → k < a + n → f k ≡ g k) → map f (range_with_len a n) ≡ map g (range_with_len a n)
made_same f g a zero same = refl
made_same f g a (suc n) same =
    let here = same a (omega arith) (omega arith) in
    let rest = made_same f g (a + 1) n (λ k low high. same k (omega arith) (omega arith)) in
    λ i. here i ∷ rest i

pub same_filter : (f g : ℕ → Bool) (a n : ℕ) → ((e : ℕ) → a ≤ e → e < a + n → f e ≡ g e) → filter f (range_with_len a n) ≡ filter g (range_with_len a n)
same_filter f g a zero same = refl
same_filter f g a (suc n) same =
    (λ i. cond (same a (omega arith) (omega arith) i) (a ∷ same_filter f g (a + 1) n (λ e low high. same e (omega arith) (omega arith)) i) (same_filter f g (a + 1) n (λ e low high. same e (omega arith) (omega arith)) i))

-- one number passes
pub one_passes : (test : ℕ → Bool) (n a count : ℕ) → a ≤ n → n < a + count → test n ≡ true → ((e : ℕ) → e ≢ n → test e ≡ false) → filter test (range_with_len a count) ≡ n ∷ []
one_passes test n a zero low high passes fails = absurd (omega arith)
one_passes test n a (suc count) low high passes fails =
    by (cases_eq a n) (one_passes test n (a + 1) count)
  where
    rest : List ℕ
    rest = filter test (range_with_len (a + 1) count)

    by : (a ≡ n) ⊎ (a ≢ n)
        → (a + 1 ≤ n → n < a + 1 + count → test n ≡ true → ((e : ℕ) → e ≢ n → test e ≡ false) → rest ≡ n ∷ []) → cond (test a) (a ∷ rest) rest ≡ n ∷ []
    by (inl here) more =
        ap (λ b. cond b (a ∷ rest) rest) (ap test here ∙ passes)
        ∙ (λ i. here i ∷ none_pass test (a + 1) count (λ e above below. fails e (λ is. absurd (omega arith))) i)
    by (inr other) more = ap (λ b. cond b (a ∷ rest) rest) (fails a other) ∙ more (omega arith) (omega arith) passes fails
