-- What is done to the local lists of a CPU under their lock: the head of their free list is given out.
use Rattle.std.specs.Prelude.{◌≡◌, ℕ, ◌<◌, Bool, IsTrue, [], ◌∷◌, slice_get, Option, None, Some}
use Rattle.map_types.specs.declared.kind.DomainId.TheVariants.{Local}
use Rattle.map_types.specs.Stored.{Stored, IsSized}
use Rattle.place_words.specs.Bodies.{numbers}
use Rattle.place_words.specs.Locks.{is_lock, lock_number}
use Rattle.place_table.specs.declared.view.Hold.{Hold}
use Rattle.place_table.specs.Contents.{FitsLocal}
use Rattle.place_table.specs.Passes.{PassView, TableView, IsPassOf, HasBegun, Claimed, Cleared}
use Rattle.local_lists.specs.LocalLists.{LocalView, with_free, with_pending_row}
use Rattle.percpu_values.specs.BodyList.{popped}

-- The pass holds the lock of its CPU's local lists and no other, and knows their free list.
pub record CanMakePending (t : TableView) (lists : LocalView) (p : PassView) : Type 0 where
  pub of_table : IsPassOf t p
  pub begun : HasBegun p
  pub there : IsTrue (is_lock t.shape (Local p.cpu))
  pub hold : Hold
  pub held : p.view.held ≡ hold ∷ []
  pub lock_is : hold.lock ≡ lock_number t.shape (Local p.cpu)
  pub cpu_is : hold.cpu ≡ p.cpu
  pub fits : FitsLocal t.shape lists
  pub free_is : hold.now.free ≡ numbers lists.free.bodies

-- The body at the head of the free list was taken: its element was claimed and its bit cleared, and it is the head of pending with
-- this hash.
pub record MadePending (t : TableView) (hash : ℕ) (before after : LocalView) (p q : PassView) (body : Stored) : Type 0 where
  pub head : slice_get before.free.bodies 0 ≡ Some body
  pub after_is : after ≡ with_pending_row (record { element = body.element; hash = hash }) (with_free (popped before.free) before)
  pub fits : FitsLocal t.shape after
  pub real : body.element < t.shape.elements
  pub sized : IsSized t.shape body
  pub middle : PassView
  pub claimed : Claimed (Local p.cpu) body.element p middle
  pub bit : Bool
  pub cleared : Cleared body.element middle q bit

-- what is given out, if anything is free
abbrev pub MakesPending : TableView → ℕ → LocalView → LocalView → PassView → PassView → Option Stored → Type 0
MakesPending t hash before after p q None = (before.free.bodies ≡ []) × (after ≡ before) × (q ≡ p)
MakesPending t hash before after p q (Some body) = MadePending t hash before after p q body
