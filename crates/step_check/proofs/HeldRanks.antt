-- A CPU holds one lock of a rank at most.
use Rattle.std.proofs.Common.{◌≡◌, ℕ, ◌<◌, List, [], ◌∷◌, Option, None, Some, refl, ◌∙◌, sym, subst, arith}
use Rattle.map_types.specs.declared.attr.Shape.{Shape}
use Rattle.map_types.specs.declared.kind.DomainId.{DomainId}
use Rattle.map_types.specs.ElementLists.{put}
use Rattle.place_words.specs.declared.step.Step.{Step}
use Rattle.place_words.specs.declared.step.Step.TheVariants as steps
use Rattle.place_words.specs.Interleaving.{Event, does, sees}
use Rattle.place_words.specs.Locks.{lock_number, lock_named, rank_of}
use Rattle.place_words.specs.OpeningState.{opening}
use Rattle.place_words.proofs.ElementLemmas.{at_put}
use Rattle.place_words.proofs.LockLemmas.{named_by_number}
use Rattle.core_runs.specs.Words.{Words, WordsAllow, words_after, RunsByWords}
use Rattle.step_check.specs.Ran.{words_over}

abbrev pub HoldsOneOfRank : Shape → (ℕ → Option ℕ) → Type 0
HoldsOneOfRank shape holder = (c i j : ℕ) → holder i ≡ Some c → holder j ≡ Some c → rank_of (lock_named shape i) ≡ rank_of (lock_named shape j) → i ≡ j

none_some : (c : ℕ) → (◌≡◌ {A = Option ℕ} None (Some c)) → ⊥
none_some c same = cc

-- a lock that is taken is above all that the CPU holds
one_more : (shape : Shape) (holder : ℕ → Option ℕ) (k cpu : ℕ) → HoldsOneOfRank shape holder → ((j : ℕ) → holder j ≡ Some cpu → rank_of (lock_named shape j) < rank_of (lock_named shape k)) → HoldsOneOfRank shape (put holder k (Some cpu))
one_more shape holder k cpu one above c i j =
    at_put holder k (Some cpu) (λ (i : ℕ) (o : Option ℕ). o ≡ Some c → put holder k (Some cpu) j ≡ Some c → rank_of (lock_named shape i) ≡ rank_of (lock_named shape j) → i ≡ j) i
    (λ mine. at_put holder k (Some cpu) (λ (j : ℕ) (o : Option ℕ). o ≡ Some c → rank_of (lock_named shape k) ≡ rank_of (lock_named shape j) → k ≡ j) j
    (λ also rank. refl)
    (λ apart was rank.
    let less : rank_of (lock_named shape j) < rank_of (lock_named shape k) = above j (was ∙ sym mine) in
    absurd (omega (arith, less, rank))))
    (λ apart was. at_put holder k (Some cpu) (λ (j : ℕ) (o : Option ℕ). o ≡ Some c → rank_of (lock_named shape i) ≡ rank_of (lock_named shape j) → i ≡ j) j
    (λ mine rank.
    let less : rank_of (lock_named shape i) < rank_of (lock_named shape k) = above i (was ∙ sym mine) in
    absurd (omega (arith, less, rank)))
    (λ apart' too rank. one c i j was too rank))

-- and one that is given back is held no longer
one_less : (shape : Shape) (holder : ℕ → Option ℕ) (k : ℕ) → HoldsOneOfRank shape holder → HoldsOneOfRank shape (put holder k None)
one_less shape holder k one c i j =
    at_put holder k None (λ (i : ℕ) (o : Option ℕ). o ≡ Some c → put holder k None j ≡ Some c → rank_of (lock_named shape i) ≡ rank_of (lock_named shape j) → i ≡ j) i
    (λ never. absurd (none_some c never))
    (λ apart was. at_put holder k None (λ (j : ℕ) (o : Option ℕ). o ≡ Some c → rank_of (lock_named shape i) ≡ rank_of (lock_named shape j) → i ≡ j) j
    (λ never. absurd (none_some c never))
    (λ apart' too rank. one c i j was too rank))

one_step : (shape : Shape) (w : Words) (step : Step) → WordsAllow shape w step → HoldsOneOfRank shape w.holder → HoldsOneOfRank shape (words_after shape w step).holder
unfolding WordsAllow words_after
one_step shape w (steps.Take cpu lock) can one =
    one_more shape w.holder (lock_number shape lock) cpu one
    (λ j has. subst (λ (l : DomainId). rank_of (lock_named shape j) < rank_of l) (sym (named_by_number shape lock can.is_lock)) (can.above j has))
one_step shape w (steps.Give cpu lock lists) can one = one_less shape w.holder (lock_number shape lock) one
one_step shape w (steps.Claim cpu e lock) can one = one
one_step shape w (steps.Settle cpu e lock) can one = one
one_step shape w (steps.Attach cpu e bucket) can one = one
one_step shape w (steps.Detach cpu e bucket) can one = one
one_step shape w (steps.Rehome cpu e to) can one = one
one_step shape w (steps.Mark cpu e bucket) can one = one
one_step shape w (steps.Clear cpu e) can one = one
one_step shape w (steps.Glance cpu e) can one = one

pub one_over : (shape : Shape) (events : List Event) (w : Words) → RunsByWords shape w events → HoldsOneOfRank shape w.holder → HoldsOneOfRank shape (words_over shape w events).holder
unfolding RunsByWords words_over
one_over shape [] w run one = one
one_over shape (does step ∷ events) w run one = one_over shape events (words_after shape w step) run.1 (one_step shape w step run.0 one)
one_over shape (sees e holder ∷ events) w run one = one_over shape events w run.1 one

pub one_first : (shape : Shape) → HoldsOneOfRank shape (opening shape).holder
unfolding opening
one_first shape c i j has also rank = absurd (none_some c has)
