-- The turns of a pop: it looks at the freelists in ring order, and ends at the first that isn't empty.
use Rattle.std.proofs.Common.{◌≡◌, ℕ, zero, suc, ◌+◌, ◌<◌, Bool, true, false, not, cond, eqb, List, [], ◌∷◌, length, take, drop, get_or, Option, Some, None, refl, ap, sym, ◌∙◌, subst, arith}
use Rattle.std.specs.Prelude.{find}
use Rattle.std.specs.List.{AllByRecursion, before_first, after_first, position_or_len}
use Rattle.std.proofs.lemmas.List.{nil_from_length}
use Rattle.std.proofs.lemmas.Option.{none-some}
use Rattle.map_types.specs.declared.attr.Shape.{Shape}
use Rattle.map_types.specs.declared.kind.DomainId.{DomainId}
use Rattle.map_types.specs.declared.kind.DomainId.TheVariants.{Freelist}
use Rattle.place_words.specs.declared.finals.Finals.{Finals}
use Rattle.place_words.specs.declared.free_part.FreePart.TheVariants.{Popped, FoundEmpty}
use Rattle.map_types.specs.ElementLists.{IsHead}
use Rattle.place_words.specs.Freelists.{without_top}
use Rattle.place_words.specs.Histories.{Content}
use Rattle.place_words.specs.Traces.{Pops, ring, on_freelist_of, found_empty, after_turn, after_turns, AreAllowed, spare_after}
use Rattle.place_words.proofs.Splits.{find_passes, find_splits}
use Rattle.place_words.proofs.PlacedContents.{after_both}
use Rattle.map_report.specs.Freelists.{stack_at, first_not_empty, popped_at}
use Rattle.map_report.specs.Turns.{content_under, pop_turns}
use Rattle.serial_laws.proofs.EachOnceSteps.{some_there, none_there, stack_within}
use Rattle.serial_laws.proofs.TurnSteps.{allowed_more, after_same, freelist_leaves}
use Rattle.serial_laws.proofs.TurnLemmas.{empty_leaves}
use Rattle.core_runs.proofs.BatchCalls.{spare_both}

-- What doesn't pass a test

abbrev Fail : (ℕ → Bool) → List ℕ → Type 0
Fail test xs = AllByRecursion (λ x. test x ≡ false) xs

fail_to : (test : ℕ → Bool) (xs : List ℕ) (n : ℕ) → n ≡ position_or_len test xs → Fail test (take n xs)
fail_to test [] zero is = tt
fail_to test [] (suc n) is = tt
fail_to test (x ∷ xs) zero is = tt
fail_to test (x ∷ xs) (suc n) is = by (test x) refl is (fail_to test xs n)
  where
    by : (b : Bool) → test x ≡ b → suc n ≡ cond (not b) (1 + position_or_len test xs) 0 → (n ≡ position_or_len test xs → Fail test (take n xs)) → Fail test (x ∷ take n xs)
    by true passes long rest = absurd (omega arith)
    by false fails long rest = (fails, rest (omega arith))

fail_before : (test : ℕ → Bool) (xs : List ℕ) → Fail test (before_first test xs)
fail_before test xs = fail_to test xs (position_or_len test xs) refl

all_fail : (test : ℕ → Bool) (xs : List ℕ) → find test xs ≡ None → Fail test xs
all_fail test [] none = tt
all_fail test (x ∷ xs) none = by (test x) refl none (all_fail test xs)
  where
    by : (b : Bool) → test x ≡ b → cond b (Some x) (find test xs) ≡ None → (find test xs ≡ None → Fail test xs) → Fail test (x ∷ xs)
    by true passes here rest = absurd (none-some x (sym here))
    by false fails there rest = (fails, rest there)

-- Empty freelists

empty_stays : (shape : Shape) (cpu : ℕ) (contents : DomainId → Content) (owner : ℕ) → after_turn shape cpu contents (on_freelist_of owner FoundEmpty) ≡ contents
empty_stays shape cpu contents owner =
    after_same shape cpu contents (on_freelist_of owner FoundEmpty) (empty_leaves shape cpu (contents (Freelist owner)))

after_empty : (shape : Shape) (cpu : ℕ) (contents : DomainId → Content) (owners : List ℕ) → after_turns shape cpu contents (found_empty owners) ≡ contents
after_empty shape cpu contents [] = refl
after_empty shape cpu contents (owner ∷ owners) =
    ap (λ c. after_turns shape cpu c (found_empty owners)) (empty_stays shape cpu contents owner) ∙ after_empty shape cpu contents owners

pub spare_empty : (spare : Option ℕ) (owners : List ℕ) → spare_after spare (found_empty owners) ≡ spare
spare_empty spare [] = refl
spare_empty spare (owner ∷ owners) = spare_empty spare owners

-- whether a CPU's freelist isn't empty
abbrev has_top : List (List ℕ) → ℕ → Bool
has_top stacks cpu = not (eqb (length (stack_at stacks cpu)) 0)

empty_allowed : (shape : Shape) (cpu : ℕ) (lists : Finals) (owners : List ℕ) → Fail (has_top lists.freelists) owners → AreAllowed shape cpu (content_under lists) (found_empty owners)
empty_allowed shape cpu lists [] fail = tt
empty_allowed shape cpu lists (owner ∷ owners) fail = (
  nil_from_length (stack_at lists.freelists owner) (none_there (length (stack_at lists.freelists owner)) fail.0),
  subst (λ contents. AreAllowed shape cpu contents (found_empty owners)) (sym (empty_stays shape cpu (content_under lists) owner)) (empty_allowed shape cpu lists owners fail.1),
)

-- Pops

-- the top of a stack, and what is under it
head_is : (stack : List ℕ) → 0 < length stack → IsHead (get_or stack 0 0) stack
head_is [] some = absurd (omega arith)
head_is (top ∷ stack) some = refl

rest_is : (stack : List ℕ) → without_top stack ≡ drop 1 stack
rest_is [] = refl
rest_is (top ∷ stack) = refl

-- the lists after a pop from a CPU's freelist
abbrev pub lists_popped : Finals → Option ℕ → Finals
lists_popped lists None = lists
lists_popped lists (Some giver) = record lists { freelists = (popped_at lists.freelists giver).1 }

module _ (shape : Shape) (cpu : ℕ) (lists : Finals) where
  -- what a pop found: an element where it ends, and all before it empty
  pub pop_traced : (giver : ℕ) → length lists.freelists ≡ shape.cpus → first_not_empty cpu lists.freelists ≡ Some giver
      → Pops shape cpu (get_or (stack_at lists.freelists giver) 0 0) (pop_turns cpu lists.freelists (Some giver))
  pop_traced giver long found = record {
    passed = before_first (has_top lists.freelists) (ring cpu (length lists.freelists));
    giver = giver;
    left = after_first (has_top lists.freelists) (ring cpu (length lists.freelists));
    ring_is = ap (ring cpu) (sym long) ∙ find_splits (has_top lists.freelists) (ring cpu (length lists.freelists)) giver found;
    turns_are = refl;
  }

  pub none_traced : length lists.freelists ≡ shape.cpus → pop_turns cpu lists.freelists None ≡ found_empty (ring cpu shape.cpus)
  none_traced long = ap (λ n. found_empty (ring cpu n)) long

  giver_full : (giver : ℕ) → first_not_empty cpu lists.freelists ≡ Some giver → 0 < length (stack_at lists.freelists giver)
  giver_full giver found =
      some_there (length (stack_at lists.freelists giver)) (find_passes (has_top lists.freelists) (ring cpu (length lists.freelists)) giver found)

  -- each of its turns may be made
  pub pop_allowed : (found : Option ℕ) → first_not_empty cpu lists.freelists ≡ found → AreAllowed shape cpu (content_under lists) (pop_turns cpu lists.freelists found)
  pop_allowed None is = empty_allowed shape cpu lists (ring cpu (length lists.freelists)) (all_fail (has_top lists.freelists) (ring cpu (length lists.freelists)) is)
  pop_allowed (Some giver) is =
      let passed : List ℕ = before_first (has_top lists.freelists) (ring cpu (length lists.freelists)) in
      let top : ℕ = get_or (stack_at lists.freelists giver) 0 0 in
      allowed_more shape cpu (content_under lists) (found_empty passed) (on_freelist_of giver (Popped top) ∷ [])
      (empty_allowed shape cpu lists passed (fail_before (has_top lists.freelists) (ring cpu (length lists.freelists))))
      (subst (λ contents. AreAllowed shape cpu contents (on_freelist_of giver (Popped top) ∷ [])) (sym (after_empty shape cpu (content_under lists) passed))
      (head_is (stack_at lists.freelists giver) (giver_full giver is), tt))

  -- they leave the freelists as a pop does
  pub pop_leaves : (found : Option ℕ) → first_not_empty cpu lists.freelists ≡ found
      → after_turns shape cpu (content_under lists) (pop_turns cpu lists.freelists found) ≡ content_under (lists_popped lists found)
  pop_leaves None is = after_empty shape cpu (content_under lists) (ring cpu (length lists.freelists))
  pop_leaves (Some giver) is =
      let passed : List ℕ = before_first (has_top lists.freelists) (ring cpu (length lists.freelists)) in
      let stack : List ℕ = stack_at lists.freelists giver in
      let last = on_freelist_of giver (Popped (get_or stack 0 0)) in
      after_both shape cpu (content_under lists) (found_empty passed) (last ∷ [])
      ∙ ap (λ contents. after_turn shape cpu contents last) (after_empty shape cpu (content_under lists) passed)
      ∙ freelist_leaves shape cpu lists giver (Popped (get_or stack 0 0)) (drop 1 stack) (stack_within lists.freelists giver (giver_full giver is)) (rest_is stack)

  -- and the spare as it is
  pub pop_spare : (spare found : Option ℕ) → spare_after spare (pop_turns cpu lists.freelists found) ≡ spare
  pop_spare spare None = spare_empty spare (ring cpu (length lists.freelists))
  pop_spare spare (Some giver) =
      let passed : List ℕ = before_first (has_top lists.freelists) (ring cpu (length lists.freelists)) in
      spare_both spare (found_empty passed) (on_freelist_of giver (Popped (get_or (stack_at lists.freelists giver) 0 0)) ∷ []) ∙ spare_empty spare passed
