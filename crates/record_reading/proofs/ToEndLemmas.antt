-- Numbers to the end of a line, read one after another.
use Rattle.std.proofs.Common.{◌≡◌, ℕ, zero, suc, ◌<◌, ◌≤◌, List, [], ◌∷◌, ◌++◌, length, Option, Some, None, refl, sym, ap, ◌∙◌, arith, append_assoc, length-append}
use Rattle.std.specs.Prelude.{codes}
use Rattle.std.specs.Str.Parse.{digits_value}
use Rattle.std.proofs.lemmas.List.{append-nil}
use Rattle.record_reading.specs.Readers.{◌>>=◌, behind, after, digits_of, behind_digits, number, blank_numbers, numbers_to_end}
use Rattle.record_reading.proofs.Laws.{bound, if_some, behind_right, digits_split}

-- ---- a number takes a letter at least

number_behind : (below : ℕ) (text : List ℕ) (found : ℕ × List ℕ) → number below text ≡ Some found → length found.1 ≤ length text
unfolding number
number_behind below text found h =
    let is = if_some _ (digits_value 10 (digits_of text), behind_digits text) found h in
    omega (arith, ap (λ (x : ℕ × List ℕ). length x.1) is.1, ap length (digits_split text), length-append (digits_of text) (behind_digits text))

pub shorter : (below : ℕ) (text : List ℕ) (found : ℕ × List ℕ) → after (codes " ") (number below) text ≡ Some found → length found.1 < length text
shorter below text found h =
    let blank = bound (behind (codes " ") text) (number below) found h in
    omega (arith, number_behind below blank.0 found blank.2, ap length (behind_right (codes " ") text blank.0 blank.1))

-- ---- any bound that is long enough

abbrev one_more : ℕ → ℕ → ℕ × List ℕ → Option (List ℕ)
one_more below most n = blank_numbers below most n.1 >>= (λ more. Some (n.0 ∷ more))

same_step : (below m n : ℕ) (o : Option (ℕ × List ℕ)) → ((x : ℕ × List ℕ) → o ≡ Some x → blank_numbers below m x.1 ≡ blank_numbers below n x.1) → (o >>= one_more below m) ≡ (o >>= one_more below n)
same_step below m n None same = refl
same_step below m n (Some x) same = ap (λ (o : Option (List ℕ)). o >>= (λ more. Some (x.0 ∷ more))) (same x refl)

same_numbers : (below m n : ℕ) (text : List ℕ) → length text ≤ m → length text ≤ n → blank_numbers below m text ≡ blank_numbers below n text
unfolding blank_numbers
same_numbers below m n [] fits fits_too = refl
same_numbers below zero n (c ∷ text) fits fits_too = absurd (omega (arith, fits))
same_numbers below (suc m) zero (c ∷ text) fits fits_too = absurd (omega (arith, fits_too))
same_numbers below (suc m) (suc n) (c ∷ text) fits fits_too =
    same_step below m n (after (codes " ") (number below) (c ∷ text))
    (λ x is. let less = shorter below (c ∷ text) x is in same_numbers below m n x.1 (omega (arith, less, fits)) (omega (arith, less, fits_too)))

-- ---- what is left is read behind what was found

abbrev these_and : List ℕ → Option (List ℕ) → Option (List ℕ)
these_and found o = o >>= (λ more. Some (found ++ more))

pub record AreSoFar (below : ℕ) (text rest found : List ℕ) : Type 0 where
  pub so_far : numbers_to_end below text ≡ these_and found (numbers_to_end below rest)

-- the numbers where one is found first, and where none is
to_end_some : (below : ℕ) (text : List ℕ) (n : ℕ × List ℕ) → after (codes " ") (number below) text ≡ Some n → numbers_to_end below text ≡ (numbers_to_end below n.1 >>= (λ more. Some (n.0 ∷ more)))
unfolding numbers_to_end blank_numbers
to_end_some below [] n h = absurd (let less = shorter below [] n h in omega (arith, less))
to_end_some below (c ∷ text) n h =
    let less = shorter below (c ∷ text) n h in
    ap (λ (o : Option (ℕ × List ℕ)). o >>= one_more below (length text)) h
    ∙ ap (λ (o : Option (List ℕ)). o >>= (λ more. Some (n.0 ∷ more))) (same_numbers below (length text) (length n.1) n.1 (omega (arith, less)) (omega arith))

to_end_none : (below : ℕ) (text : List ℕ) → 0 < length text → after (codes " ") (number below) text ≡ None → numbers_to_end below text ≡ None
unfolding numbers_to_end blank_numbers
to_end_none below [] some h = absurd (omega (arith, some))
to_end_none below (c ∷ text) some h = ap (λ (o : Option (ℕ × List ℕ)). o >>= one_more below (length text)) h

to_end_done : (below : ℕ) (text : List ℕ) → length text ≡ 0 → numbers_to_end below text ≡ Some []
unfolding numbers_to_end blank_numbers
to_end_done below [] h = refl
to_end_done below (c ∷ text) h = absurd (omega (arith, h))

nothing_found : (o : Option (List ℕ)) → o ≡ these_and [] o
nothing_found None = refl
nothing_found (Some more) = refl

one_behind : (found : List ℕ) (n : ℕ) (o : Option (List ℕ)) → these_and found (o >>= (λ more. Some (n ∷ more))) ≡ these_and (found ++ n ∷ []) o
one_behind found n None = refl
one_behind found n (Some more) = ap (λ (l : List ℕ). Some l) (sym (append_assoc found (n ∷ []) more))

pub numbers_start : (below : ℕ) (text found : List ℕ) → found ≡ [] → AreSoFar below text text found
numbers_start below text found none = record { so_far = nothing_found (numbers_to_end below text) ∙ ap (λ l. these_and l (numbers_to_end below text)) (sym none) }

pub numbers_more : (below : ℕ) (text rest found : List ℕ) → AreSoFar below text rest found → (n : ℕ) (next : List ℕ) → after (codes " ") (number below) rest ≡ Some (n, next) → AreSoFar below text next (found ++ n ∷ [])
numbers_more below text rest found so n next h =
    record { so_far = so.so_far ∙ ap (these_and found) (to_end_some below rest (n, next) h) ∙ one_behind found n (numbers_to_end below next) }

pub numbers_none : (below : ℕ) (text rest found : List ℕ) → AreSoFar below text rest found → 0 < length rest → after (codes " ") (number below) rest ≡ None → numbers_to_end below text ≡ None
numbers_none below text rest found so some h = so.so_far ∙ ap (these_and found) (to_end_none below rest some h)

pub numbers_done : (below : ℕ) (text rest found : List ℕ) → AreSoFar below text rest found → length rest ≡ 0 → numbers_to_end below text ≡ Some found
numbers_done below text rest found so over = so.so_far ∙ ap (these_and found) (to_end_done below rest over) ∙ ap (λ (l : List ℕ). Some l) (append-nil found)
