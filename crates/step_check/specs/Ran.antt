-- What the words answer to some events, one after another.
use Rattle.std.specs.Prelude.{◌≡◌, ℕ, Bool, true, false, List, [], ◌∷◌, Option, None, Some}
use Rattle.map_types.specs.declared.attr.Shape.{Shape}
use Rattle.place_words.specs.Interleaving.{Event, does, sees}
use Rattle.place_words.specs.declared.step.Step.{Step}
use Rattle.place_words.specs.declared.step.Step.TheVariants as steps
use Rattle.core_runs.specs.Words.{Words, RunsByWords, words_after}
use Rattle.step_check.specs.declared.change.Change.{Change}
use Rattle.step_check.specs.declared.change.Change.TheVariants.{Claim, Settle, Attach, Detach, Rehome}
use Rattle.step_check.specs.WordsView.{WordsView, words_in, AreWords}

-- the words after all of these events
unfoldable pub words_over : Shape → Words → List Event → Words
words_over shape w [] = w
words_over shape w (does step ∷ events) = words_over shape (words_after shape w step) events
words_over shape w (sees e holder ∷ events) = words_over shape w events

-- the step that a change is where a CPU does it
abbrev pub step_of : ℕ → Change → Step
step_of cpu (Claim e lock) = steps.Claim cpu e lock
step_of cpu (Settle e lock) = steps.Settle cpu e lock
step_of cpu (Attach e bucket) = steps.Attach cpu e bucket
step_of cpu (Detach e bucket) = steps.Detach cpu e bucket
step_of cpu (Rehome e to) = steps.Rehome cpu e to

-- all of these events may happen in their order, and the words after them are kept
pub record RanAll (before : WordsView) (events : List Event) (now : WordsView) : Type 0 where
  pub ran : RunsByWords before.shape (words_in before) events
  pub words : words_in now ≡ words_over before.shape (words_in before) events
  pub shape : now.shape ≡ before.shape
  pub are : AreWords now

-- one of them may not
pub record RanNot (before : WordsView) (events : List Event) (now : WordsView) : Type 0 where
  pub fails : ¬ RunsByWords before.shape (words_in before) events
  pub shape : now.shape ≡ before.shape
  pub are : AreWords now

abbrev pub Ran : WordsView → List Event → WordsView → Bool → Type 0
Ran before events now true = RanAll before events now
Ran before events now false = RanNot before events now

-- what is seen, where something is
abbrev pub seen_list : Option (ℕ × ℕ) → List Event
seen_list None = []
seen_list (Some seen) = sees seen.0 seen.1 ∷ []
