-- What a range gives, one number after the other, and that the ring is a round.
use Rattle.std.proofs.Common.{◌≡◌, ℕ, zero, suc, ◌+◌, ◌-◌, ◌<◌, ◌≤◌, ◌⊎◌, inl, inr, cond, List, [], ◌∷◌, ◌++◌, length, Option, Some, None, refl, ap, sym, ◌∙◌, arith}
use Rattle.std.specs.List.{range_with_len}
use Rattle.std.specs.Iterator.{YieldsFirst}
use Rattle.std.specs.declared.ops.Range.{Range}
use Rattle.std.proofs.iter.Yields.{nat_range_steps}
use Rattle.std.specs.Prelude.{All}
use Rattle.std.proofs.lemmas.Bool.{cases_lt}
use Rattle.std.proofs.lemmas.List.FromFn.{length-range_with_len, get_or-range_with_len}
use Rattle.std.proofs.lemmas.List.Elements.{All-append}
use Rattle.map_types.specs.ElementLists.{times}
use Rattle.map_types.proofs.RowLemmas.{by_test, times_append}
use Rattle.place_words.specs.Takings.{ring_next}
use Rattle.place_words.specs.Turns.{ring}
use Rattle.steal_ring.specs.Rounds.{Wraps, IsRound, cpus_in}

-- What a range gives

first_comes : (was now : Range ℕ) (cpu : ℕ) → nat_range_steps was (Some cpu) now → cpus_in was ≡ cpu ∷ cpus_in now
first_comes was now cpu (same, (some, is, more)) =
    let one_less : was.end - was.start ≡ suc (now.end - now.start) = omega arith in
    ap (range_with_len was.start) one_less ∙ (λ i. sym is i ∷ range_with_len (sym more i) (now.end - now.start))

none_comes : (was now : Range ℕ) → nat_range_steps was None now → (cpus_in was ≡ []) × (cpus_in now ≡ [])
none_comes was now (same, (none, stays)) =
    (ap (range_with_len was.start) none, ap (range_with_len now.start) (let none_now : now.end - now.start ≡ 0 = omega arith in none_now))

-- The first range gives what comes, and where it has come to its end, the second.

pub first_gives : (left : List ℕ) (was now second : Range ℕ) (cpu : ℕ) → cpus_in was ++ cpus_in second ≡ left → nat_range_steps was (Some cpu) now → left ≡ cpu ∷ (cpus_in now ++ cpus_in second)
first_gives left was now second cpu is step = sym is ∙ ap (λ (cpus : List ℕ). cpus ++ cpus_in second) (first_comes was now cpu step)

pub second_gives : (left : List ℕ) (was now second second_now : Range ℕ) (cpu : Option ℕ) → cpus_in was ++ cpus_in second ≡ left → nat_range_steps was None now → nat_range_steps second cpu second_now → YieldsFirst (λ (cpus : List ℕ). cpus) left cpu (cpus_in now ++ cpus_in second_now)
second_gives left was now second second_now cpu is none step =
    let first = none_comes was now none in
    let alone : left ≡ cpus_in second = sym is ∙ ap (λ (cpus : List ℕ). cpus ++ cpus_in second) first.0 in
    let left_now : cpus_in now ++ cpus_in second_now ≡ cpus_in second_now = ap (λ (cpus : List ℕ). cpus ++ cpus_in second_now) first.1 in
    gives cpu step alone left_now
  where
    gives : (cpu : Option ℕ) → nat_range_steps second cpu second_now → left ≡ cpus_in second → cpus_in now ++ cpus_in second_now ≡ cpus_in second_now → YieldsFirst (λ (cpus : List ℕ). cpus) left cpu (cpus_in now ++ cpus_in second_now)
    gives None step alone left_now = let ends = none_comes second second_now step in (alone ∙ ends.0, left_now ∙ ends.1)
    gives (Some cpu) step alone left_now = alone ∙ first_comes second second_now cpu step ∙ ap (λ (cpus : List ℕ). cpu ∷ cpus) (sym left_now)

-- one less is left than before
pub one_less : (left now : List ℕ) (cpu : ℕ) → left ≡ cpu ∷ now → length now < length left
one_less left now cpu is = let long = ap length is in omega arith

-- How often a number stands in a range

none_without : (c a n : ℕ) → (c < a) ⊎ (a + n ≤ c) → times c (range_with_len a n) ≡ 0
none_without c a zero out = refl
none_without c a (suc n) (inl less) =
    by_test a c (λ b. cond b (suc (times c (range_with_len (a + 1) n))) (times c (range_with_len (a + 1) n)) ≡ 0)
    (λ same. absurd (omega arith))
    (λ other. none_without c (a + 1) n (inl (omega arith)))
none_without c a (suc n) (inr more) =
    by_test a c (λ b. cond b (suc (times c (range_with_len (a + 1) n))) (times c (range_with_len (a + 1) n)) ≡ 0)
    (λ same. absurd (omega arith))
    (λ other. none_without c (a + 1) n (inr (omega arith)))

once_within : (c a n : ℕ) → a ≤ c → c < a + n → times c (range_with_len a n) ≡ 1
once_within c a zero least most = absurd (omega arith)
once_within c a (suc n) least most =
    by_test a c (λ b. cond b (suc (times c (range_with_len (a + 1) n))) (times c (range_with_len (a + 1) n)) ≡ 1)
    (λ same. let rest = none_without c (a + 1) n (inl (omega arith)) in omega arith)
    (λ other. once_within c (a + 1) n (omega arith) (omega arith))

ring_once : (start cpus c : ℕ) → start < cpus → c < cpus → times c (ring start cpus) ≡ 1
ring_once start cpus c within below =
    let parts = times_append c (range_with_len start (cpus - start)) (range_with_len 0 start) in
    elim (cases_lt c start) [
      | inl less ↦ let up = none_without c start (cpus - start) (inl less) in let wrapped = once_within c 0 start (omega arith) (omega arith) in omega arith
      | inr more ↦ let up = once_within c start (cpus - start) more (omega arith) in let wrapped = none_without c 0 start (inr (omega arith)) in omega arith
    ]

-- each CPU of a range, and so of the ring, is one of the map
range_below : (cpus a n : ℕ) → a + n ≤ cpus → All (λ cpu. cpu < cpus) (range_with_len a n)
range_below cpus a n within k d less =
    let long = length-range_with_len a n in
    let its = get_or-range_with_len a n k d (omega arith) in
    omega arith

ring_below : (start cpus : ℕ) → start < cpus → All (λ cpu. cpu < cpus) (ring start cpus)
ring_below start cpus within =
    All-append (λ cpu. cpu < cpus) (range_with_len start (cpus - start)) (range_with_len 0 start) (range_below cpus start (cpus - start) (omega arith)) (range_below cpus 0 start (omega arith))

-- The order

goes_up : (cpu cpus : ℕ) → cpu + 1 < cpus → cpu + 1 ≡ ring_next cpu cpus
goes_up cpu cpus more =
    by_test (cpu + 1) cpus (λ b. cpu + 1 ≡ cond b 0 (cpu + 1)) (λ last. absurd (omega arith)) (λ _. refl)

goes_round : (cpu cpus : ℕ) → cpu + 1 ≡ cpus → 0 ≡ ring_next cpu cpus
goes_round cpu cpus last =
    by_test (cpu + 1) cpus (λ b. 0 ≡ cond b 0 (cpu + 1)) (λ _. refl) (λ more. absurd (more last))

wraps_up : (cpus a n : ℕ) → a + n ≤ cpus → Wraps cpus (range_with_len a n)
wraps_up cpus a zero within = tt
wraps_up cpus a (suc zero) within = tt
wraps_up cpus a (suc (suc n)) within = (goes_up a cpus (omega arith), wraps_up cpus (a + 1) (suc n) (omega arith))

-- up to the last CPU, and on from CPU 0
wraps_round : (cpus a n m : ℕ) → a + suc n ≡ cpus → m ≤ cpus → Wraps cpus (range_with_len a (suc n) ++ range_with_len 0 m)
wraps_round cpus a zero zero last few = tt
wraps_round cpus a zero (suc m) last few = (goes_round a cpus (omega arith), wraps_up cpus 0 (suc m) (omega arith))
wraps_round cpus a (suc n) m last few = (goes_up a cpus (omega arith), wraps_round cpus (a + 1) n m (omega arith) few)

pub ring_is_round : (start cpus : ℕ) → start < cpus → IsRound start cpus (ring start cpus)
ring_is_round start cpus within =
    let more : cpus - start ≡ suc (cpus - start - 1) = omega arith in record {
      starts = rw more refl;
      wraps = rw more (wraps_round cpus start (cpus - start - 1) start (omega arith) (omega arith));
      once = λ c below. ring_once start cpus c within below;
      below = ring_below start cpus within;
    }

pub ring_is : (start cpus : ℕ) → ring start cpus ≡ cpus_in (record { start = start; end = cpus }) ++ cpus_in (record { start = 0; end = start })
ring_is start cpus = ap (λ (n : ℕ). range_with_len start (cpus - start) ++ range_with_len 0 n) (let all : start ≡ start - 0 = omega arith in all)
