-- Events one after another, by words.
use Rattle.std.proofs.Common.{◌≡◌, ◌≢◌, ℕ, ◌<◌, None, Some, Bool, true, false, List, [], ◌∷◌, ◌++◌, refl, ap, ◌∙◌, sym, subst}
use Rattle.map_types.specs.declared.attr.Shape.{Shape}
use Rattle.std.specs.Prelude.{MatchBool, Ok}
use Rattle.map_types.specs.declared.kind.DomainId.{DomainId}
use Rattle.place_words.specs.declared.home.Home.{Home}
use Rattle.place_words.specs.declared.owner.Owner.TheVariants as owners
use Rattle.place_words.specs.declared.step.Lists.{Lists}
use Rattle.place_words.specs.declared.step.Step.TheVariants as steps
use Rattle.place_words.specs.Locks.{lock_number}
use Rattle.place_words.specs.Interleaving.{Event, does, sees}
use Rattle.place_words.specs.declared.step.Step.{Step}
use Rattle.core_runs.specs.Words.{Words, WordsAllow, words_after, RunsByWords, HoldsWord, TakesWord, SettlesWord, AttachesWord, InBucketWord, RehomesWord, with_holder_word, with_owner_word}
use Rattle.step_check.specs.WordsView.{WordsView, words_in, AreWords}
use Rattle.step_check.specs.Answers.{Answered, Answers, with_home_word}
use Rattle.step_check.specs.Ran.{words_over, RanAll, RanNot, Ran}

-- one step
pub ran_step : (before now : WordsView) (step : Step) (answer : Bool) → AreWords before → Answered before (WordsAllow before.shape (words_in before) step) (words_after before.shape (words_in before) step) now answer → Ran before (does step ∷ []) now answer
unfolding RunsByWords words_over
ran_step before now step true are did = record { ran = (did.allowed, tt); words = did.changed; shape = did.shape; are = did.are }
ran_step before now step false are none = record { fails = λ run. none.0 run.0; shape = ap (λ (v : WordsView). v.shape) none.1; are = subst AreWords (sym none.1) are }

-- no event
pub ran_none : (before : WordsView) → AreWords before → RanAll before [] before
unfolding RunsByWords words_over
ran_none before are = record { ran = tt; words = refl; shape = refl; are = are }

-- these events run, and then others do: so all do
pub runs_both_parts : (shape : Shape) (some others : List Event) (w : Words) → RunsByWords shape w some → RunsByWords shape (words_over shape w some) others → RunsByWords shape w (some ++ others)
unfolding RunsByWords words_over
runs_both_parts shape [] others w first second = second
runs_both_parts shape (does step ∷ some) others w first second = (first.0, runs_both_parts shape some others (words_after shape w step) first.1 second)
runs_both_parts shape (sees e h ∷ some) others w first second = (first.0, runs_both_parts shape some others w first.1 second)

-- where all run, the first ones do, and the others after them
pub runs_first : (shape : Shape) (some others : List Event) (w : Words) → RunsByWords shape w (some ++ others) → RunsByWords shape w some
unfolding RunsByWords
runs_first shape [] others w run = tt
runs_first shape (does step ∷ some) others w run = (run.0, runs_first shape some others (words_after shape w step) run.1)
runs_first shape (sees e h ∷ some) others w run = (run.0, runs_first shape some others w run.1)

pub runs_second : (shape : Shape) (some others : List Event) (w : Words) → RunsByWords shape w (some ++ others) → RunsByWords shape (words_over shape w some) others
unfolding RunsByWords words_over
runs_second shape [] others w run = run
runs_second shape (does step ∷ some) others w run = runs_second shape some others (words_after shape w step) run.1
runs_second shape (sees e h ∷ some) others w run = runs_second shape some others w run.1

pub over_both : (shape : Shape) (some others : List Event) (w : Words) → words_over shape w (some ++ others) ≡ words_over shape (words_over shape w some) others
unfolding words_over
over_both shape [] others w = refl
over_both shape (does step ∷ some) others w = over_both shape some others (words_after shape w step)
over_both shape (sees e h ∷ some) others w = over_both shape some others w

-- two lists of events one after the other
pub ran_then : (before middle now : WordsView) (some others : List Event) (answer : Bool) → RanAll before some middle → Ran middle others now answer → Ran before (some ++ others) now answer
ran_then before middle now some others true first second = record {
  ran = runs_both_parts before.shape some others (words_in before) first.ran (subst (λ (w : Words). RunsByWords before.shape w others) first.words (subst (λ (s : Shape). RunsByWords s (words_in middle) others) first.shape second.ran));
  words = second.words ∙ (λ i. words_over (first.shape i) (first.words i) others) ∙ sym (over_both before.shape some others (words_in before));
  shape = second.shape ∙ first.shape;
  are = second.are;
}
ran_then before middle now some others false first second = record {
  fails = λ run. second.fails (subst (λ (s : Shape). RunsByWords s (words_in middle) others) (sym first.shape) (subst (λ (w : Words). RunsByWords before.shape w others) (sym first.words) (runs_second before.shape some others (words_in before) run)));
  shape = second.shape ∙ first.shape;
  are = second.are;
}

-- where the first ones don't run, all don't
pub ran_not : (before now : WordsView) (some others : List Event) → RanNot before some now → RanNot before (some ++ others) now
ran_not before now some others none = record { fails = λ run. none.fails (runs_first before.shape some others (words_in before) run); shape = none.shape; are = none.are }

-- each kind of step
pub ran_take : (before now : WordsView) (cpu : ℕ) (lock : DomainId) (answer : Bool) → AreWords before → Answered before (TakesWord before.shape (words_in before) cpu lock) (with_holder_word (words_in before) (lock_number before.shape lock) (Some cpu)) now answer → Ran before (does (steps.Take cpu lock) ∷ []) now answer
unfolding WordsAllow words_after
ran_take before now cpu lock answer are did = ran_step before now (steps.Take cpu lock) answer are did

pub ran_give : (before now : WordsView) (cpu : ℕ) (lock : DomainId) (lists : Lists) (answer : Bool) → AreWords before → Answered before (HoldsWord before.shape (words_in before) cpu lock) (with_holder_word (words_in before) (lock_number before.shape lock) None) now answer → Ran before (does (steps.Give cpu lock lists) ∷ []) now answer
unfolding WordsAllow words_after
ran_give before now cpu lock lists answer are did = ran_step before now (steps.Give cpu lock lists) answer are did

pub ran_claim : (before now : WordsView) (cpu e : ℕ) (lock : DomainId) (answer : Bool) → AreWords before → Answered before (HoldsWord before.shape (words_in before) cpu lock × (e < before.shape.elements)) (with_owner_word (words_in before) e (owners.Hand cpu)) now answer → Ran before (does (steps.Claim cpu e lock) ∷ []) now answer
unfolding WordsAllow words_after
ran_claim before now cpu e lock answer are did = ran_step before now (steps.Claim cpu e lock) answer are did

pub ran_settle : (before now : WordsView) (cpu e : ℕ) (lock : DomainId) (answer : Bool) → AreWords before → Answered before (SettlesWord before.shape (words_in before) cpu e lock) (with_owner_word (words_in before) e owners.Free) now answer → Ran before (does (steps.Settle cpu e lock) ∷ []) now answer
unfolding WordsAllow words_after
ran_settle before now cpu e lock answer are did = ran_step before now (steps.Settle cpu e lock) answer are did

pub ran_attach : (before now : WordsView) (cpu e bucket : ℕ) (answer : Bool) → AreWords before → Answered before (AttachesWord before.shape (words_in before) cpu e bucket) (with_owner_word (words_in before) e (owners.Bucket bucket)) now answer → Ran before (does (steps.Attach cpu e bucket) ∷ []) now answer
unfolding WordsAllow words_after
ran_attach before now cpu e bucket answer are did = ran_step before now (steps.Attach cpu e bucket) answer are did

pub ran_detach : (before now : WordsView) (cpu e bucket : ℕ) (answer : Bool) → AreWords before → Answered before (InBucketWord before.shape (words_in before) cpu e bucket) (with_owner_word (words_in before) e (owners.Hand cpu)) now answer → Ran before (does (steps.Detach cpu e bucket) ∷ []) now answer
unfolding WordsAllow words_after
ran_detach before now cpu e bucket answer are did = ran_step before now (steps.Detach cpu e bucket) answer are did

pub ran_rehome : (before now : WordsView) (cpu e : ℕ) (to : Home) (answer : Bool) → AreWords before → Answered before (RehomesWord before.shape (words_in before) cpu e to) (with_home_word (words_in before) e to) now answer → Ran before (does (steps.Rehome cpu e to) ∷ []) now answer
unfolding WordsAllow words_after
ran_rehome before now cpu e to answer are did = ran_step before now (steps.Rehome cpu e to) answer are did

-- what a probe sees
pub ran_sees : (kept : WordsView) (e hand : ℕ) (answer : Bool) → AreWords kept → MatchBool answer ((words_in kept).owner e ≡ owners.Hand hand) ((words_in kept).owner e ≢ owners.Hand hand) → Ran kept (sees e hand ∷ []) kept answer
unfolding RunsByWords words_over
ran_sees kept e hand true are seen = record { ran = (seen, tt); words = refl; shape = refl; are = are }
ran_sees kept e hand false are other = record { fails = λ run. other run.0; shape = refl; are = are }

-- a part that sees nothing
pub ran_unseen : (kept : WordsView) (events : List Event) → AreWords kept → events ≡ [] → RanAll kept events kept
ran_unseen kept events are nothing = subst (λ (es : List Event). RanAll kept es kept) (sym nothing) (ran_none kept are)

-- the steps of a part, what it sees, and what is given back
pub part_not : (before now : WordsView) (events mine seen gives : List Event) (answer : Bool) → events ≡ mine → Ran before events now answer → answer ≡ false → RanNot before (mine ++ seen ++ gives) now
part_not before now events mine seen gives answer same ran fails =
    ran_not before now (mine ++ seen) gives (ran_not before now mine seen (subst (λ (es : List Event). RanNot before es now) same (subst (Ran before events now) fails ran)))

pub part_unseen : (before now : WordsView) (events mine seen gives : List Event) (answer sight : Bool) → events ≡ mine → Ran before events now answer → answer ≡ true → Ran now seen now sight → sight ≡ false → RanNot before (mine ++ seen ++ gives) now
part_unseen before now events mine seen gives answer sight same ran holds look fails =
    ran_not before now (mine ++ seen) gives (ran_then before now now mine seen false (subst (λ (es : List Event). RanAll before es now) same (subst (Ran before events now) holds ran)) (subst (Ran now seen now) fails look))

pub part_given : (before middle now : WordsView) (events mine seen gives : List Event) (answer sight given : Bool) → events ≡ mine → Ran before events middle answer → answer ≡ true → Ran middle seen middle sight → sight ≡ true → Ran middle gives now given → Ran before (mine ++ seen ++ gives) now given
part_given before middle now events mine seen gives answer sight given same ran holds look right last =
    ran_then before middle now (mine ++ seen) gives given (ran_then before middle middle mine seen true (subst (λ (es : List Event). RanAll before es middle) same (subst (Ran before events middle) holds ran)) (subst (Ran middle seen middle) right look)) last

pub answered_ok : (before now : WordsView) (may : Type 0) (words : Words) (answer : Bool) → Answers before may words now (Ok answer) → Answered before may words now answer
answered_ok before now may words true did = did
answered_ok before now may words false not_done = not_done

pub are_words : (before now : WordsView) (events : List Event) (answer : Bool) → Ran before events now answer → AreWords now
are_words before now events true ran = ran.are
are_words before now events false ran = ran.are

pub same_shape : (before now : WordsView) (events : List Event) (answer : Bool) → Ran before events now answer → now.shape ≡ before.shape
same_shape before now events true ran = ran.shape
same_shape before now events false ran = ran.shape
