-- What the words of a run are seen as: lists of what is held, and of owners and homes by the numbers of elements.
use Rattle.std.specs.Prelude.{◌≡◌, ℕ, ◌==◌, ⊤, List, [], ◌∷◌, length, slice_index_or, Option, None, Some, if◌then◌else◌}
use Rattle.map_types.specs.declared.attr.Shape.{Shape}
use Rattle.map_types.specs.Creation.{IsShape}
use Rattle.place_words.specs.declared.home.Home.{Home}
use Rattle.place_words.specs.declared.home.Home.TheVariants as homes
use Rattle.place_words.specs.declared.owner.Owner.{Owner}
use Rattle.place_words.specs.declared.owner.Owner.TheVariants as owners
use Rattle.core_runs.specs.Words.{Words}

pub record WordsView : Type 0 where
  pub shape : Shape
  -- the locks that are held, each with its CPU
  pub held : List (ℕ × ℕ)
  -- of each element
  pub owners : List Owner
  pub homes : List Home

-- the CPU that holds a lock
abbrev pub holder_in : ℕ → List (ℕ × ℕ) → Option ℕ
holder_in k [] = None
holder_in k (hold ∷ holds) = if hold.0 == k then Some hold.1 else holder_in k holds

-- the words that are kept
abbrev pub words_in : WordsView → Words
words_in kept = record {
  holder = λ k. holder_in k kept.held;
  owner = λ e. slice_index_or kept.owners e owners.Free;
  home = λ e. slice_index_or kept.homes e homes.Unlisted;
}

-- each of these holds is what the whole list says of its lock
abbrev pub AreHolds : List (ℕ × ℕ) → List (ℕ × ℕ) → Type 0
AreHolds held [] = ⊤
AreHolds held (hold ∷ holds) = (holder_in hold.0 held ≡ Some hold.1) × AreHolds held holds

-- each lock that is held has one holder
abbrev pub HeldOnce : List (ℕ × ℕ) → Type 0
HeldOnce held = AreHolds held held

-- what holds of the words at each moment: every element has them, and each lock that is held has one holder
pub record AreWords (kept : WordsView) : Type 0 where
  pub is_shape : IsShape kept.shape
  pub owners : length kept.owners ≡ kept.shape.elements
  pub homes : length kept.homes ≡ kept.shape.elements
  pub held : HeldOnce kept.held
