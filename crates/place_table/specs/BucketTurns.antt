-- A turn of a key's bucket: how the bucket is taken, what the turn leaves, and what the turns of lookups, deletes and takes tell.
use Rattle.std.specs.Prelude.{◌≡◌, ◌⊎◌, ℕ, ◌<◌, false, List, [], ◌∷◌, Option, None, Some, MatchBool, MatchOption}
use Rattle.map_types.specs.declared.kind.DomainId.TheVariants.{Bucket}
use Rattle.map_types.specs.declared.kind.Side.{Side}
use Rattle.map_types.specs.declared.kind.Side.TheVariants.{Prog, Sys}
use Rattle.map_types.specs.declared.reply.Reply.{Reply}
use Rattle.map_types.specs.Kind.{is_lru}
use Rattle.map_types.specs.Sides.{value_read}
use Rattle.map_types.specs.Stored.{Stored, IsSized}
use Rattle.percpu_values.specs.BodyList.{BodyList}
use Rattle.place_words.specs.declared.bucket_part.BucketPart.TheVariants.{Lookup, Delete, Take}
use Rattle.place_words.specs.declared.history.Part.{Part}
use Rattle.place_words.specs.declared.history.Part.TheVariants as parts
use Rattle.place_words.specs.Bodies.{present}
use Rattle.place_words.specs.Locks.{lock_number}
use Rattle.place_words.specs.PlainTraces.{reply_of_got}
use Rattle.place_words.specs.Turns.{on_lock}
use Rattle.place_table.specs.declared.content.Content.TheVariants as contents
use Rattle.place_table.specs.declared.view.Hold.{Hold}
use Rattle.place_table.specs.declared.view.InHand.{InHand}
use Rattle.place_table.specs.declared.view.Turned.{Turned}
use Rattle.place_table.specs.Calls.{IsTold, bits_of_turns}
use Rattle.place_table.specs.InBucket.{InBucket}
use Rattle.place_table.specs.Known.{Learns, turn_of, IsBy}
use Rattle.place_table.specs.Passes.{PassView, TableView, IsPassOf, HasBegun, TookLock, Goes, Marked}
use Rattle.place_table.specs.Views.{with_in_hand, notes_below}
use Rattle.place_table.specs.declared.bucket_takes.TakenOut.{TakenOut}
use Rattle.place_table.specs.BucketHeld.{HoldsWithout}

-- a bucket of the map may be taken by a pass that holds no lock
pub record CanEnter (t : TableView) (bucket : ℕ) (p : PassView) : Type 0 where
  pub of_table : IsPassOf t p
  pub begun : HasBegun p
  pub no_lock : p.view.held ≡ []
  pub there : bucket < t.shape.buckets

-- the bucket was taken by a pass that held no lock, whatever is in hand
pub record Entered (t : TableView) (bucket : ℕ) (p q : PassView) (chain : BodyList) : Type 0 where
  pub no_lock : p.view.held ≡ []
  pub took : TookLock t (Bucket bucket) p q (contents.Bucket chain)
  pub inside : InBucket t bucket q chain.bodies

-- No lock but this one was given back without a part, and this one once at most.
abbrev pub LosesAtMost : ℕ → List ℕ → Type 0
LosesAtMost lock lost = (lost ≡ []) ⊎ (lost ≡ lock ∷ [])

-- The bucket, the one lock that was held, was given back, in one turn, which is told as one with this part. It was made from what lay
-- there when the bucket was taken. No other lock's record was lost, and this is in hand now. Spares, what is carried and the notes of
-- turns around it stay, and on a map that doesn't evict what is known of bits.
pub record GivenBack (t : TableView) (bucket : ℕ) (q s : PassView) (part : Part) (hand : List InHand) : Type 0 where
  pub step : Turned
  pub told : Turned
  pub lost : List ℕ
  pub is_told : IsTold t.shape lost step told
  pub turn : turn_of t.shape told ≡ on_lock (Bucket bucket) part
  pub from : (hold : Hold) → q.view.held ≡ hold ∷ [] → step.earlier ≡ hold.log
  pub loses : LosesAtMost (lock_number t.shape (Bucket bucket)) lost
  pub goes : Goes q s (step ∷ []) lost
  pub by_call : IsBy q.cpu q.call step
  pub held : s.view.held ≡ []
  pub notes : s.view.notes ≡ notes_below q.view.notes
  pub spares : s.spares ≡ q.spares
  pub carried : s.view.carried ≡ q.view.carried
  pub hand_is : s.view.hand ≡ hand
  pub bits : is_lru t.shape.kind ≡ false → s.view.bits ≡ q.view.bits
  pub learns : Learns t.shape q.view s.view (step ∷ []) (bits_of_turns t.shape (told ∷ []))

-- a map that evicts set the bit of an element, and another changed nothing
abbrev pub MarkedOn : TableView → ℕ → PassView → PassView → Type 0
MarkedOn t e before after = MatchBool (is_lru t.shape.kind) (Marked e before after) (after ≡ before)

-- a program's lookup did so for what it found, and the system call's changed nothing
abbrev pub MarkedFor : TableView → Side → ℕ → PassView → PassView → Type 0
MarkedFor t Prog e before after = MarkedOn t e before after
MarkedFor t Sys e before after = after ≡ before

-- a lookup's turn of its bucket
pub record LooksUp (t : TableView) (bucket : ℕ) (q s : PassView) (side : Side) (key : List ℕ) (reply : Reply) : Type 0 where
  pub got : Option (ℕ × List ℕ)
  pub gives : GivenBack t bucket q s (parts.Bucket (Lookup side key got)) q.view.hand
  pub reply_is : reply ≡ reply_of_got got

-- what was taken out is one of the map's elements, and has the map's sizes
abbrev pub IsOut : TableView → Option Stored → Type 0
IsOut t out = MatchOption out (Unit {0}) (λ body. (body.element < t.shape.elements) × IsSized t.shape body)

-- The bucket, in which these bodies lay, is still held, without the body of a key, whose element came to the CPU's hand. No turn was
-- made. Spares, what is carried, the notes of turns around it and what is known of bits stay.
pub record HasOut (t : TableView) (bucket : ℕ) (q r : PassView) (bodies : List Stored) (key : List ℕ) (out : TakenOut) : Type 0 where
  pub present_is : present key bodies ≡ Some out.body
  pub without : HoldsWithout t bucket r key out.body out.chain.bodies
  pub bodies_are : without.bodies ≡ bodies
  pub log_is : (hold : Hold) → q.view.held ≡ hold ∷ [] → without.holds.hold.log ≡ hold.log
  pub is_out : IsOut t (Some out.body)
  pub goes : Goes q r [] []
  pub notes : notes_below r.view.notes ≡ notes_below q.view.notes
  pub spares : r.spares ≡ q.spares
  pub carried : r.view.carried ≡ q.view.carried
  pub hand_is : r.view.hand ≡ with_in_hand out.body.element q.cpu q.view.hand
  pub bits : r.view.bits ≡ q.view.bits
  pub learns : Learns t.shape q.view r.view [] []

-- The turn of a delete, and of a take, up to where the body is out. Where the key is absent it ends there.
abbrev pub DeletesFrom : TableView → ℕ → PassView → PassView → List Stored → List ℕ → Option TakenOut → Type 0
DeletesFrom t bucket q r bodies key out =
    MatchOption out (GivenBack t bucket q r (parts.Bucket (Delete key None)) q.view.hand) (HasOut t bucket q r bodies key)

abbrev pub TakesFrom : TableView → ℕ → PassView → PassView → List Stored → List ℕ → Option TakenOut → Type 0
TakesFrom t bucket q r bodies key out =
    MatchOption out (GivenBack t bucket q r (parts.Bucket (Take key None)) q.view.hand) (HasOut t bucket q r bodies key)

-- What the end of that turn asks: it is told of the element that was taken out, and of what the system call reads of it.
abbrev pub IsWithout : TableView → ℕ → PassView → List ℕ → ℕ → List Stored → Type 0
IsWithout t bucket r key e left = (body : Stored) × HoldsWithout t bucket r key body left × (e ≡ body.element)

abbrev pub IsWithoutValue : TableView → ℕ → PassView → List ℕ → ℕ → List ℕ → List Stored → Type 0
IsWithoutValue t bucket r key e value left =
    (body : Stored) × HoldsWithout t bucket r key body left × (e ≡ body.element) × (value ≡ value_read t.shape Sys r.cpu body.values)
