-- A pass that has just taken one bucket alone, and where a key stands in it.
use Rattle.std.specs.Prelude.{◌≡◌, ℕ, ◌<◌, List, [], ◌∷◌, length, slice_get, All, Some}
use Rattle.map_types.specs.declared.kind.DomainId.TheVariants.{Bucket}
use Rattle.map_types.specs.Stored.{Stored, IsSized}
use Rattle.bucket_chain.specs.Places.{place_of_key, key_at}
use Rattle.place_words.specs.declared.history.Entry.{Entry}
use Rattle.place_words.specs.Bodies.{present}
use Rattle.place_words.specs.Histories.{in_bucket, content, IsLegal}
use Rattle.place_words.specs.Locks.{lock_number}
use Rattle.place_table.specs.declared.view.Hold.{Hold}
use Rattle.place_table.specs.declared.view.Notes.{Notes}
use Rattle.place_table.specs.Contents.{lists_of}
use Rattle.place_table.specs.Passes.{PassView, TableView, IsPassOf, HasBegun}
use Rattle.place_table.specs.Plays.{AreElements, IsApartFromHands}
use Rattle.place_table.specs.Views.{known_log, no_notes}

-- The pass holds this bucket alone, in which these bodies lie as its turns left them. Nothing was done there yet.
pub record InBucket (t : TableView) (bucket : ℕ) (q : PassView) (bodies : List Stored) : Type 0 where
  pub of_table : IsPassOf t q
  pub begun : HasBegun q
  pub there : bucket < t.shape.buckets
  pub cpu_there : q.cpu < t.shape.cpus
  pub hold : Hold
  pub below : List Notes
  pub held : q.view.held ≡ hold ∷ []
  pub notes : q.view.notes ≡ no_notes ∷ below
  pub lock_is : hold.lock ≡ lock_number t.shape (Bucket bucket)
  pub cpu_is : hold.cpu ≡ q.cpu
  pub content_is : in_bucket bodies ≡ content t.shape (Bucket bucket) hold.log
  pub legal : IsLegal t.shape (Bucket bucket) hold.log
  pub now : hold.now ≡ lists_of (in_bucket bodies)
  pub elements : AreElements t.shape hold.now
  pub apart : IsApartFromHands q.view (Bucket bucket) hold.now
  pub sized : All (IsSized t.shape) bodies
  pub known : (log : List Entry) → known_log hold.lock q.view.known ≡ Some log → hold.log ≡ log

-- the key stands at this place, in this body
pub record IsAt (key : List ℕ) (place : ℕ) (bodies : List Stored) : Type 0 where
  pub body : Stored
  pub present_is : present key bodies ≡ Some body
  pub body_is : slice_get bodies place ≡ Some body
  pub place_is : place_of_key key bodies ≡ Some place
  pub below : place < length bodies
  pub key_is : key_at place bodies ≡ key
