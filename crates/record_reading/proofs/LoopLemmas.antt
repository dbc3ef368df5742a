-- Sections that are read one after another, with what was found so far.
use Rattle.std.proofs.Common.{◌≡◌, ℕ, suc, ◌+◌, ◌-◌, ◌<◌, ◌≤◌, List, [], ◌∷◌, ◌++◌, Option, Some, None, Result, Ok, Err, subst, refl, sym, ap, ◌∙◌, arith, append_assoc}
use Rattle.std.specs.List.{range_with_len}
use Rattle.std.proofs.lemmas.List.{append-nil}
use Rattle.record_reading.specs.Outcomes.{Reads}
use Rattle.record_reading.specs.Sections.{Line, Section, go_on, cons, for_each, so_many}

abbrev pub Outcome : Type 0 → Type 0
Outcome A = Result (A × List Line) (List Line)

-- what is left is read behind what was found
abbrev pub behind_these : {A : Type 0} → List A → Outcome (List A) → Outcome (List A)
behind_these found left = go_on left (λ more rest. Ok (found ++ more, rest))

nothing_before : {A : Type 0} (left : Outcome (List A)) → left ≡ behind_these [] left
unfolding go_on
nothing_before (Ok (more, rest)) = refl
nothing_before (Err rest) = refl

one_before : {A : Type 0} (found : List A) (a : A) (left : Outcome (List A)) → behind_these found (go_on (go_on left (λ b rest. Ok ((a, b), rest))) (λ p rest. Ok (cons p, rest))) ≡ behind_these (found ++ a ∷ []) left
unfolding go_on
one_before found a (Ok (more, rest)) = ap (λ (l : List _). Ok (l, rest)) (sym (append_assoc found (a ∷ []) more))
one_before found a (Err rest) = refl

-- what was found
pub none_read : {A : Type 0} (section : Section A) (these those : List Line) (found : Option A) → Reads section these those found → found ≡ None → section these ≡ Err those
none_read section these those found h none = subst (Reads section these those) none h

pub some_read : {A : Type 0} (section : Section A) (these those : List Line) (found : Option A) (a : A) → Reads section these those found → found ≡ Some a → section these ≡ Ok (a, those)
some_read section these those found a h some = subst (Reads section these those) some h

-- ---- for each of these

pub record EachSoFar {X A : Type 0} (read : X → Section A) (all left : List X) (old new : List Line) (found : List A) : Type 0 where
  pub so_far : for_each read all old ≡ behind_these found (for_each read left new)

pub each_start : {X A : Type 0} (read : X → Section A) (all left : List X) (old new : List Line) (found : List A) → left ≡ all → old ≡ new → found ≡ [] → EachSoFar read all left old new found
each_start read all left old new found these lines none =
    record { so_far = nothing_before (for_each read all old) ∙ (λ i. behind_these (sym none i) (for_each read (sym these i) (lines i))) }

pub each_more : {X A : Type 0} (read : X → Section A) (all left : List X) (old new : List Line) (found : List A) → EachSoFar read all left old new found → (x : X) (more : List X) → left ≡ x ∷ more → (a : A) (after : List Line) → read x new ≡ Ok (a, after)
    → EachSoFar read all more old after (found ++ a ∷ [])
unfolding go_on
each_more read all left old new found so x more is a after h =
    record { so_far = so.so_far ∙ ap (λ (l : List _). behind_these found (for_each read l new)) is ∙ rw h (one_before found a (for_each read more after)) }

pub each_none : {X A : Type 0} (read : X → Section A) (all left : List X) (old new : List Line) (found : List A) → EachSoFar read all left old new found → (x : X) (more : List X) → left ≡ x ∷ more → (after : List Line) → read x new ≡ Err after
    → for_each read all old ≡ Err after
unfolding go_on
each_none read all left old new found so x more is after h = so.so_far ∙ ap (λ (l : List _). behind_these found (for_each read l new)) is ∙ rw h refl

pub each_done : {X A : Type 0} (read : X → Section A) (all left : List X) (old new : List Line) (found : List A) → EachSoFar read all left old new found → left ≡ [] → for_each read all old ≡ Ok (found, new)
unfolding go_on
each_done read all left old new found so is =
    so.so_far ∙ ap (λ (l : List _). behind_these found (for_each read l new)) is ∙ ap (λ (l : List _). Ok (l, new)) (append-nil found)

-- ---- numbered from 0 on

abbrev pub from_number : ℕ → ℕ → List ℕ
from_number count number = range_with_len number (count - number)

pub from_first : (count number : ℕ) → number < count → from_number count number ≡ number ∷ from_number count (number + 1)
from_first count number less = by (count - number) (omega arith)
  where
    by : (left : ℕ) → left ≡ suc (count - (number + 1)) → range_with_len number left ≡ number ∷ from_number count (number + 1)
    by left is = ap (range_with_len number) is

pub from_last : (count number : ℕ) → count ≤ number → from_number count number ≡ []
from_last count number past = by (count - number) (omega arith)
  where
    by : (left : ℕ) → left ≡ 0 → range_with_len number left ≡ []
    by left is = ap (range_with_len number) is

pub record NumberedSoFar {A : Type 0} (read : ℕ → Section A) (count number : ℕ) (old new : List Line) (found : List A) : Type 0 where
  pub within : number ≤ count
  pub so_far : EachSoFar read (range_with_len 0 count) (from_number count number) old new found

pub numbered_start : {A : Type 0} (read : ℕ → Section A) (count : ℕ) (old : List Line) (found : List A) → found ≡ [] → NumberedSoFar read count 0 old old found
numbered_start read count old found none =
    record { within = omega arith; so_far = each_start read (range_with_len 0 count) (from_number count 0) old old found (ap (range_with_len 0) {x = count - 0} {y = count} (omega arith)) refl none }

pub numbered_more : {A : Type 0} (read : ℕ → Section A) (count number : ℕ) (old new : List Line) (found : List A) → NumberedSoFar read count number old new found → number < count → (a : A) (after : List Line) → read number new ≡ Ok (a, after)
    → NumberedSoFar read count (number + 1) old after (found ++ a ∷ [])
numbered_more read count number old new found so less a after h =
    record { within = omega (arith, less); so_far = each_more read (range_with_len 0 count) (from_number count number) old new found so.so_far number (from_number count (number + 1)) (from_first count number less) a after h }

pub numbered_none : {A : Type 0} (read : ℕ → Section A) (count number : ℕ) (old new : List Line) (found : List A) → NumberedSoFar read count number old new found → number < count → (after : List Line) (one : Option A) → Reads (read number) new after one → one ≡ None → for_each read (range_with_len 0 count) old ≡ Err after
numbered_none read count number old new found so less after one h none =
    each_none read (range_with_len 0 count) (from_number count number) old new found so.so_far number (from_number count (number + 1)) (from_first count number less) after (none_read (read number) new after one h none)

pub numbered_done : {A : Type 0} (read : ℕ → Section A) (count number : ℕ) (old new : List Line) (found : List A) → NumberedSoFar read count number old new found → count ≤ number → for_each read (range_with_len 0 count) old ≡ Ok (found, new)
numbered_done read count number old new found so past =
    each_done read (range_with_len 0 count) (from_number count number) old new found so.so_far (from_last count number past)

-- ---- so many

pub record ManySoFar {A : Type 0} (read : Section A) (count place : ℕ) (old new : List Line) (found : List A) : Type 0 where
  pub so_far : so_many count read old ≡ behind_these found (so_many (count - place) read new)

pub many_start : {A : Type 0} (read : Section A) (count : ℕ) (old : List Line) (found : List A) → found ≡ [] → ManySoFar read count 0 old old found
many_start read count old found none =
    record { so_far = nothing_before (so_many count read old) ∙ (λ i. behind_these (sym none i) (so_many (is i) read old)) }
  where
    is : count ≡ count - 0
    is = omega arith

one_left : (count place : ℕ) → place < count → count - place ≡ suc (count - (place + 1))
one_left count place less = omega arith

pub many_more : {A : Type 0} (read : Section A) (count place : ℕ) (old new : List Line) (found : List A) → ManySoFar read count place old new found → place < count → (a : A) (after : List Line) → read new ≡ Ok (a, after)
    → ManySoFar read count (place + 1) old after (found ++ a ∷ [])
unfolding go_on
many_more read count place old new found so less a after h =
    record { so_far = so.so_far ∙ ap (λ n. behind_these found (so_many n read new)) (one_left count place less) ∙ rw h (one_before found a (so_many (count - (place + 1)) read after)) }

pub many_none : {A : Type 0} (read : Section A) (count place : ℕ) (old new : List Line) (found : List A) → ManySoFar read count place old new found → place < count → (after : List Line) (one : Option A) → Reads read new after one → one ≡ None → so_many count read old ≡ Err after
unfolding go_on
many_none read count place old new found so less after one h none =
    so.so_far ∙ ap (λ n. behind_these found (so_many n read new)) (one_left count place less) ∙ rw (none_read read new after one h none) refl

pub many_done : {A : Type 0} (read : Section A) (count place : ℕ) (old new : List Line) (found : List A) → ManySoFar read count place old new found → count ≤ place → so_many count read old ≡ Ok (found, new)
unfolding go_on
many_done read count place old new found so past =
    so.so_far ∙ ap (λ n. behind_these found (so_many n read new)) {x = count - place} {y = 0} (omega arith) ∙ ap (λ (l : List _). Ok (l, new)) (append-nil found)
