-- What the words answer to a step.
use Rattle.std.specs.Prelude.{◌≡◌, ℕ, Bool, true, false, Result, Ok, Err}
use Rattle.map_types.specs.declared.refusal.NoMemory.{NoMemory}
use Rattle.map_types.specs.ElementLists.{put}
use Rattle.place_words.specs.declared.home.Home.{Home}
use Rattle.core_runs.specs.Words.{Words}
use Rattle.step_check.specs.declared.words.Kept.{Kept}
use Rattle.step_check.specs.WordsView.{WordsView, words_in, AreWords}

abbrev pub view_of : Kept → WordsView
view_of kept = record {
  shape = kept.shape;
  held = kept.held.items;
  owners = kept.owners.items;
  homes = kept.homes.items;
}

-- the words once an element has another home
abbrev pub with_home_word : Words → ℕ → Home → Words
with_home_word w e to = record { holder = w.holder; owner = w.owner; home = put w.home e to }

-- the step may be done, and its words are kept from then on
pub record Did (before : WordsView) (may : Type 0) (words : Words) (now : WordsView) : Type 0 where
  pub allowed : may
  pub changed : words_in now ≡ words
  pub shape : now.shape ≡ before.shape
  pub are : AreWords now

-- A step is done, or it may not be done, or memory for it is not found. But where it is done nothing has changed.
abbrev pub Answers : WordsView → (may : Type 0) → (words : Words) → WordsView → Result Bool NoMemory → Type 0
Answers before may words now (Ok true) = Did before may words now
Answers before may words now (Ok false) = (¬ may) × (now ≡ before)
Answers before may words now (Err none) = now ≡ before

-- the same of a step that asks for no memory
abbrev pub Answered : WordsView → (may : Type 0) → (words : Words) → WordsView → Bool → Type 0
Answered before may words now true = Did before may words now
Answered before may words now false = (¬ may) × (now ≡ before)
