-- Lists by their places: what holds of each element, and what stands where in a part of a list.
use Rattle.std.proofs.Common.{◌≡◌, ◌⊎◌, ℕ, zero, suc, ◌+◌, ◌<◌, Bool, true, false, List, [], ◌∷◌, ◌++◌, take, drop, Some, refl, ap, ◌∙◌, subst, arith, inl, inr}
use Rattle.std.specs.Prelude.{All, MatchBool, slice_get}
use Rattle.std.proofs.lemmas.Option.{none-some, same_Some, slice_get_within, get_or_from_slice_get}
use Rattle.record_shape.specs.Fits.{AllFit}

-- what holds of each element holds of the one at a place, and the other way round
pub fit_at : {A : Type 0} (P : A → Type 0) (xs : List A) → AllFit P xs → (k : ℕ) (x : A) → slice_get xs k ≡ Some x → P x
fit_at P [] all k x at = absurd (none-some x at)
fit_at P (y ∷ xs) all zero x at = subst P (same_Some y x at) all.0
fit_at P (y ∷ xs) all (suc k) x at = fit_at P xs all.1 k x at

pub fit_each : {A : Type 0} (P : A → Type 0) (xs : List A) → ((k : ℕ) (x : A) → slice_get xs k ≡ Some x → P x) → AllFit P xs
fit_each P [] each = tt
fit_each P (x ∷ xs) each = (each 0 x refl, fit_each P xs (λ k. each (suc k)))

pub all_at : {A : Type 0} (P : A → Type 0) (xs : List A) → All P xs → (k : ℕ) (x : A) → slice_get xs k ≡ Some x → P x
all_at P xs all k x at = subst P (get_or_from_slice_get xs k x x at) (all k x (slice_get_within xs k x at))

-- parts of a list
pub at_taken : {A : Type 0} (n : ℕ) (xs : List A) (k : ℕ) (x : A) → slice_get (take n xs) k ≡ Some x → slice_get xs k ≡ Some x
at_taken zero xs k x at = absurd (none-some x at)
at_taken (suc n) [] k x at = absurd (none-some x at)
at_taken (suc n) (y ∷ xs) zero x at = at
at_taken (suc n) (y ∷ xs) (suc k) x at = at_taken n xs k x at

pub taken_at : {A : Type 0} (n : ℕ) (xs : List A) (k : ℕ) (x : A) → k < n → slice_get xs k ≡ Some x → slice_get (take n xs) k ≡ Some x
taken_at zero xs k x less at = absurd (omega (arith, less))
taken_at (suc n) [] k x less at = absurd (none-some x at)
taken_at (suc n) (y ∷ xs) zero x less at = at
taken_at (suc n) (y ∷ xs) (suc k) x less at = taken_at n xs k x (omega (arith, less)) at

pub at_dropped : {A : Type 0} (n : ℕ) (xs : List A) (k : ℕ) → slice_get (drop n xs) k ≡ slice_get xs (n + k)
at_dropped zero xs k = let same : k ≡ 0 + k = omega arith in ap (slice_get xs) same
at_dropped (suc n) [] k = refl
at_dropped (suc n) (y ∷ xs) k = let same : suc (n + k) ≡ suc n + k = omega arith in at_dropped n xs k ∙ ap (slice_get (y ∷ xs)) same

pub at_both : {A : Type 0} (xs ys : List A) (k : ℕ) (x : A) → slice_get (xs ++ ys) k ≡ Some x
    → (slice_get xs k ≡ Some x) ⊎ ((j : ℕ) × (slice_get ys j ≡ Some x))
at_both [] ys k x at = inr (k, at)
at_both (y ∷ xs) ys zero x at = inl at
at_both (y ∷ xs) ys (suc k) x at = at_both xs ys k x at

-- a list around one of its elements
pub split_there : {A : Type 0} (xs : List A) (k : ℕ) (x : A) → slice_get xs k ≡ Some x → xs ≡ take k xs ++ x ∷ drop (suc k) xs
split_there [] k x at = absurd (none-some x at)
split_there (y ∷ xs) zero x at = ap (λ (z : _). z ∷ xs) (same_Some y x at)
split_there (y ∷ xs) (suc k) x at = ap (λ (l : List _). y ∷ l) (split_there xs k x at)

-- one of two, by a test
pub first_of : (b : Bool) (P Q : Type 0) → b ≡ true → MatchBool b P Q → P
first_of true P Q is either = either
first_of false P Q is either = absurd cc

pub by_either : (b : Bool) (P Q R : Type 0) → MatchBool b P Q → (P → R) → (Q → R) → R
by_either true P Q R either first second = first either
by_either false P Q R either first second = second either
