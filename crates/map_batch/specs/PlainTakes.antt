-- What a batch take leaves of a pass on a map that doesn't evict: of the bodies of one bucket, of its turn, and of the buckets from
-- one on.
use Rattle.std.specs.Prelude.{◌≡◌, ℕ, ◌-◌, Bool, true, false, All, List, [], ◌∷◌, length, map, Option}
use Rattle.map_types.specs.declared.kind.DomainId.TheVariants.{Bucket}
use Rattle.map_types.specs.declared.reply.Reply.TheVariants.{Batch}
use Rattle.map_types.specs.Stored.{Stored}
use Rattle.place_words.specs.declared.bucket_part.BucketPart.TheVariants.{Walk}
use Rattle.place_words.specs.declared.bucket_part.Walked.{Walked}
use Rattle.place_words.specs.declared.history.Part.TheVariants as parts
use Rattle.place_words.specs.PlainTraces.{spare_after}
use Rattle.place_words.specs.Turns.{on_lock}
use Rattle.place_words.specs.Walks.{TakesOut, Walks, buckets_from, walked_out}
use Rattle.place_table.specs.declared.view.Turned.{Turned}
use Rattle.place_table.specs.Calls.{AreTold}
use Rattle.place_table.specs.Known.{Learns, turn_of, turn_at, IsBy}
use Rattle.place_table.specs.Passes.{PassView, TableView, CanDetach, Detached, Made}
use Rattle.place_table.specs.Views.{is_in_hand_of}
use Rattle.hash_ops.specs.Free.{CanPush, Pushed}
use Rattle.bucket_walks.specs.BatchReads.{PairsSoFar, IsGathered, stop_of}

-- Bodies

-- a body that was taken out of a bucket that is held: its element may come to the CPU's hand, and be pushed from there
pub record CanPushOut (t : TableView) (bucket : ℕ) (body : Stored) (p : PassView) : Type 0 where
  pub detach : CanDetach t body.element bucket p
  pub push : (out : PassView) → Detached bucket body.element p out → CanPush t body out

-- it came to the hand and went to the CPU's freelist
pub record PushesOut (t : TableView) (bucket : ℕ) (body : Stored) (before after : PassView) : Type 0 where
  pub out : PassView
  pub detached : Detached bucket body.element before out
  pub pushed : Pushed t body out after

-- these did, one after another
abbrev pub PushesAll : TableView → ℕ → List Stored → PassView → PassView → Type 0
PushesAll t bucket [] before after = after ≡ before
PushesAll t bucket (body ∷ bodies) before after = (between : PassView) × PushesOut t bucket body before between × PushesAll t bucket bodies between after

-- all bodies of a bucket did, head first, where it was read whole, and else it was left
abbrev pub IsPushed : TableView → ℕ → Bool → PassView → PassView → List Stored → List Stored → Type 0
IsPushed t bucket true before after bodies left = PushesAll t bucket bodies before after × (left ≡ [])
IsPushed t bucket false before after bodies left = (after ≡ before) × (left ≡ bodies)

-- Turns

-- These turns were made by the CPU in its call, and are told so. Each CPU has in its hand what it had there, no spare is another and
-- no turn tells another one, and no bit was touched.
pub record Took (t : TableView) (before after : PassView) (steps told : List Turned) (lost : List ℕ) : Type 0 where
  pub told_are : AreTold t.shape lost steps told
  pub made : Made before after steps lost
  pub by_call : All (IsBy before.cpu before.call) steps
  pub hands : (e cpu : ℕ) → is_in_hand_of e cpu after.view.hand ≡ is_in_hand_of e cpu before.view.hand
  pub carried : after.view.carried ≡ before.view.carried
  pub spares : after.spares ≡ before.spares
  pub spare_told : (spare : Option ℕ) → spare_after spare (map (turn_of t.shape) told) ≡ spare
  pub bits : after.view.bits ≡ before.view.bits
  pub learns : Learns t.shape before.view after.view steps []

-- the bucket was read whole and all that was read was pushed in its turn, or it was left where there was no room
pub record TakesInto (t : TableView) (bucket : ℕ) (before after : PassView) (whole : Bool) (out now : PairsSoFar) : Type 0 where
  pub steps : List Turned
  pub told : List Turned
  pub lost : List ℕ
  pub took : Took t before after steps told lost
  pub walked : Walked
  pub takes_out : TakesOut t.shape before.cpu (on_lock (Bucket bucket) (parts.Bucket (Walk true (out.limit - length out.pairs) walked))) (walked_out true walked) (map (turn_at t.shape) told)
  pub gathered : IsGathered walked whole out now

-- the buckets from one on were taken whole, up to the first for which there was no room
pub record TakesOn (t : TableView) (from : ℕ) (before after : PassView) (limit : ℕ) (pairs : List (List ℕ × List ℕ)) (next : ℕ) : Type 0 where
  pub steps : List Turned
  pub told : List Turned
  pub lost : List ℕ
  pub took : Took t before after steps told lost
  pub trace : Walks t.shape before.cpu true limit (buckets_from t.shape from) [] (map (turn_at t.shape) told) (Batch (stop_of t.shape next pairs) pairs next)
