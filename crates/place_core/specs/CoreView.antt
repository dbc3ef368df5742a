-- What a core is seen as: its state in lists, by the numbers of locks and elements.
use Rattle.std.specs.Prelude.{◌≡◌, ℕ, ◌==◌, Bool, false, ⊤, List, [], ◌∷◌, length, slice_index_or, Option, None, Some, if◌then◌else◌}
use Rattle.map_types.specs.declared.attr.Shape.{Shape}
use Rattle.map_types.specs.Creation.{IsShape}
use Rattle.place_words.specs.declared.home.Home.{Home}
use Rattle.place_words.specs.declared.home.Home.TheVariants as homes
use Rattle.place_words.specs.declared.owner.Owner.{Owner}
use Rattle.place_words.specs.declared.owner.Owner.TheVariants as owners
use Rattle.place_words.specs.Locks.{lock_count}
use Rattle.place_words.specs.declared.step.Lists.{Lists}
use Rattle.place_words.specs.State.{State, no_lists}
use Rattle.place_words.specs.Places.{Placed}
use Rattle.place_words.specs.Ranks.{Ranked}

pub record CoreView : Type 0 where
  pub shape : Shape
  -- the locks that are held, each with its CPU
  pub held : List (ℕ × ℕ)
  -- what lies under each lock
  pub lists : List Lists
  -- of each element
  pub owners : List Owner
  pub homes : List Home
  pub bits : List Bool

-- the CPU that holds a lock
abbrev pub holder_in : ℕ → List (ℕ × ℕ) → Option ℕ
holder_in k [] = None
holder_in k (hold ∷ holds) = if hold.0 == k then Some hold.1 else holder_in k holds

-- the state of a core
abbrev pub state_of : CoreView → State
state_of core = record {
  holder = λ k. holder_in k core.held;
  lists = λ k. slice_index_or core.lists k no_lists;
  owner = λ e. slice_index_or core.owners e owners.Free;
  home = λ e. slice_index_or core.homes e homes.Unlisted;
  bit = λ e. slice_index_or core.bits e false;
}

-- each of these holds is what the whole list says of its lock
abbrev pub AreHolds : List (ℕ × ℕ) → List (ℕ × ℕ) → Type 0
AreHolds held [] = ⊤
AreHolds held (hold ∷ holds) = (holder_in hold.0 held ≡ Some hold.1) × AreHolds held holds

-- each lock that is held has one holder
abbrev pub HeldOnce : List (ℕ × ℕ) → Type 0
HeldOnce held = AreHolds held held

-- What holds of each core: every lock and element is there, the elements are in their places, and the CPUs' locks are
-- ranked.
pub record IsCore (core : CoreView) : Type 0 where
  pub is_shape : IsShape core.shape
  pub locks : length core.lists ≡ lock_count core.shape
  pub owners : length core.owners ≡ core.shape.elements
  pub homes : length core.homes ≡ core.shape.elements
  pub bits : length core.bits ≡ core.shape.elements
  pub held : HeldOnce core.held
  pub placed : Placed core.shape (state_of core)
  pub ranked : Ranked core.shape (state_of core)
