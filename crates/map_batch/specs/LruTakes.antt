-- What a batch take on a map that evicts leaves: after the turn of a bucket that takes its elements out, after they are freed, and
-- after the buckets from one on.
use Rattle.std.specs.Prelude.{◌≡◌, ℕ, ◌-◌, ◌≤◌, Bool, true, false, All, List, [], ◌∷◌, length, map, reverse, Some}
use Rattle.map_types.specs.declared.kind.DomainId.TheVariants.{Bucket}
use Rattle.map_types.specs.declared.reply.Reply.TheVariants.{Batch}
use Rattle.map_types.specs.ElementLists.{times, IsIn}
use Rattle.map_types.specs.Stored.{Stored}
use Rattle.place_words.specs.declared.bucket_part.BucketPart.TheVariants.{Walk}
use Rattle.place_words.specs.declared.bucket_part.Walked.{Walked}
use Rattle.place_words.specs.declared.history.Part.TheVariants as parts
use Rattle.place_words.specs.Bodies.{numbers}
use Rattle.place_words.specs.Turns.{Turn, on_lock}
use Rattle.place_words.specs.Walks.{FreesAll, TakesOut, Walks, buckets_from, walked_out}
use Rattle.place_table.specs.declared.view.InHand.{InHand}
use Rattle.place_table.specs.declared.view.Turned.{Turned}
use Rattle.place_table.specs.Known.{turn_of, turn_at}
use Rattle.place_table.specs.Passes.{PassView, TableView, IsPassOf, HasBegun}
use Rattle.place_table.specs.Views.{is_in_hand_of, with_in_hand, without_in_hand}
use Rattle.lru_ops.specs.Lists.{Changed}
use Rattle.lru_ops.specs.Under.{IsOut}
use Rattle.bucket_walks.specs.Looks.{CanWalk}
use Rattle.bucket_walks.specs.BatchReads.{PairsSoFar, IsGathered, stop_of}

-- a pass whose CPU has nothing in hand, and that holds no lock and carries nothing, goes over the buckets
pub record CanTakeOut (t : TableView) (p : PassView) : Type 0 where
  pub can : CanWalk t p
  pub carries_nothing : p.view.carried ≡ []
  pub empty_hand : (e : ℕ) → is_in_hand_of e p.cpu p.view.hand ≡ false

-- what is in hand once a CPU has taken these out, the last of them first; and once it has freed them, from the first one on
abbrev pub with_all_in_hand : List Stored → ℕ → List InHand → List InHand
with_all_in_hand [] cpu hand = hand
with_all_in_hand (body ∷ bodies) cpu hand = with_in_hand body.element cpu (with_all_in_hand bodies cpu hand)

abbrev pub without_all_in_hand : List Stored → ℕ → List InHand → List InHand
without_all_in_hand [] cpu hand = hand
without_all_in_hand (body ∷ bodies) cpu hand = without_all_in_hand bodies cpu (without_in_hand body.element cpu hand)

-- the turn of a bucket that takes its elements out, or leaves them where there is no room for them
abbrev pub takes_bucket : ℕ → PairsSoFar → Walked → Turn
takes_bucket bucket out walked = on_lock (Bucket bucket) (parts.Bucket (Walk true (out.limit - length out.pairs) walked))

-- One turn of this bucket was made. What it took out is in the CPU's hand, the last first, and is of the map, each element once.
pub record TakesInto (t : TableView) (bucket : ℕ) (before after : PassView) (whole : Bool) (out now : PairsSoFar) (gone : List Stored) : Type 0 where
  pub step : Turned
  pub told : Turned
  pub lost : List ℕ
  pub changed : Changed t before after (step ∷ []) (told ∷ []) lost
  pub walked : Walked
  pub turn : turn_of t.shape told ≡ takes_bucket bucket out walked
  pub gathered : IsGathered walked whole out now
  pub gone_is : numbers gone ≡ reverse (walked_out true walked)
  pub hand : after.view.hand ≡ with_all_in_hand gone before.cpu before.view.hand
  pub are_out : All (λ (body : Stored). IsOut t (Some body)) gone
  pub once : (e : ℕ) → times e (numbers gone) ≤ 1

-- Elements that are freed one after another are in the CPU's hand, each once, and it carries nothing. The pass holds no lock.
pub record CanFreeAll (t : TableView) (bodies : List Stored) (p : PassView) : Type 0 where
  pub of_table : IsPassOf t p
  pub begun : HasBegun p
  pub no_lock : p.view.held ≡ []
  pub carries_nothing : p.view.carried ≡ []
  pub are_out : All (λ (body : Stored). IsOut t (Some body)) bodies
  pub once : (e : ℕ) → times e (numbers bodies) ≤ 1
  pub in_hand : (e : ℕ) → IsIn e (numbers bodies) → is_in_hand_of e p.cpu p.view.hand ≡ true

-- they were freed, the first first, by turns that free them, and are in the CPU's hand no more
pub record FreedAll (t : TableView) (bodies : List Stored) (before after : PassView) : Type 0 where
  pub steps : List Turned
  pub changed : Changed t before after steps steps []
  pub trace : FreesAll t.shape (numbers bodies) (map (turn_at t.shape) steps)
  pub hand : after.view.hand ≡ without_all_in_hand bodies before.cpu before.view.hand

-- each CPU has in hand what it had
abbrev pub HaveSameInHand : PassView → PassView → Type 0
HaveSameInHand before after = (e cpu : ℕ) → is_in_hand_of e cpu after.view.hand ≡ is_in_hand_of e cpu before.view.hand

-- One turn of this bucket was made, which took its elements out, or left them where there was no room, and what it took out was
-- freed.
pub record TakesIn (t : TableView) (bucket : ℕ) (before after : PassView) (whole : Bool) (out now : PairsSoFar) : Type 0 where
  pub steps : List Turned
  pub told : List Turned
  pub lost : List ℕ
  pub changed : Changed t before after steps told lost
  pub walked : Walked
  pub trace : TakesOut t.shape before.cpu (takes_bucket bucket out walked) (walked_out true walked) (map (turn_at t.shape) told)
  pub gathered : IsGathered walked whole out now
  pub hand : HaveSameInHand before after

-- the buckets from one on were taken out whole, up to the first for which there was no room
pub record TakesOn (t : TableView) (from : ℕ) (before after : PassView) (limit : ℕ) (pairs : List (List ℕ × List ℕ)) (next : ℕ) : Type 0 where
  pub steps : List Turned
  pub told : List Turned
  pub lost : List ℕ
  pub changed : Changed t before after steps told lost
  pub hand : HaveSameInHand before after
  pub trace : Walks t.shape before.cpu true limit (buckets_from t.shape from) [] (map (turn_at t.shape) told) (Batch (stop_of t.shape next pairs) pairs next)
