-- A pass that holds one bucket alone: what lay there as its turns left it, what lies there now, and whose bits were set since.
use Rattle.std.specs.Prelude.{◌≡◌, ℕ, ◌<◌, true, List, [], ◌∷◌, All, Some, slice_get}
use Rattle.map_types.specs.declared.kind.DomainId.TheVariants.{Bucket}
use Rattle.map_types.specs.Stored.{Stored, IsSized}
use Rattle.place_words.specs.declared.history.Entry.{Entry}
use Rattle.place_words.specs.Bodies.{present, without_key}
use Rattle.place_words.specs.Histories.{in_bucket, content, IsLegal}
use Rattle.place_words.specs.Locks.{lock_number}
use Rattle.place_words.specs.declared.owner.Owner.TheVariants.{Hand}
use Rattle.place_words.specs.declared.step.Lists.{Lists}
use Rattle.place_words.specs.Steps.{without_row}
use Rattle.place_table.specs.declared.view.Hold.{Hold}
use Rattle.place_table.specs.declared.view.Notes.{Notes}
use Rattle.place_table.specs.declared.view.OwnerSeen.{OwnerSeen}
use Rattle.place_table.specs.Contents.{lists_of}
use Rattle.place_table.specs.Passes.{PassView, TableView, IsPassOf, HasBegun}
use Rattle.place_table.specs.Plays.{AreElements}
use Rattle.place_table.specs.Views.{has_all, known_log}

-- what is noted in a turn that sets the bits of these elements, changes these owners and does nothing else that is noted
abbrev pub with_marks : List ℕ → List OwnerSeen → Notes
with_marks marked changed = record { came = []; marks = marked; asked = []; owners = []; homes = []; flushed = []; off = []; changed = changed }

-- The pass holds this bucket alone. These bodies lay in it as its turns left them, these lists lie there now, and the bits of these
-- elements were set and these owners changed in its turn so far.
pub record Holds (t : TableView) (bucket : ℕ) (r : PassView) (bodies : List Stored) (now : Lists) (marked : List ℕ) (changed : List OwnerSeen) : Type 0 where
  pub of_table : IsPassOf t r
  pub begun : HasBegun r
  pub there : bucket < t.shape.buckets
  pub cpu_there : r.cpu < t.shape.cpus
  pub hold : Hold
  pub below : List Notes
  pub held : r.view.held ≡ hold ∷ []
  pub notes : r.view.notes ≡ with_marks marked changed ∷ below
  pub lock_is : hold.lock ≡ lock_number t.shape (Bucket bucket)
  pub cpu_is : hold.cpu ≡ r.cpu
  pub content_is : in_bucket bodies ≡ content t.shape (Bucket bucket) hold.log
  pub legal : IsLegal t.shape (Bucket bucket) hold.log
  pub now_is : hold.now ≡ now
  pub elements : AreElements t.shape (lists_of (in_bucket bodies))
  pub sized : All (IsSized t.shape) bodies
  pub known : has_all r.view ≡ true → (log : List Entry) → known_log hold.lock r.view.known ≡ Some log → hold.log ≡ log

-- nothing was done there yet: these bodies lie in it
abbrev pub HoldsBucket : TableView → ℕ → PassView → List Stored → Type 0
HoldsBucket t bucket q bodies = Holds t bucket q bodies (lists_of (in_bucket bodies)) [] []

-- the body of a key was taken out of it, and the others are left
pub record HoldsWithout (t : TableView) (bucket : ℕ) (r : PassView) (key : List ℕ) (body : Stored) (left : List Stored) : Type 0 where
  pub bodies : List Stored
  pub place : ℕ
  pub at : slice_get bodies place ≡ Some body
  pub present_is : present key bodies ≡ Some body
  pub left_is : left ≡ without_key body.key bodies
  pub holds : Holds t bucket r bodies (without_row body.element (lists_of (in_bucket bodies))) [] (record { element = body.element; owner = Hand r.cpu } ∷ [])
