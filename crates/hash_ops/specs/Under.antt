-- A call from where it holds the bucket of its key to its end.
use Rattle.std.specs.Prelude.{◌≡◌, ℕ, false, List, [], map, All, Result, Ok, Err}
use Rattle.map_types.specs.declared.call.Verb.{Verb}
use Rattle.map_types.specs.declared.kind.DomainId.TheVariants.{Bucket}
use Rattle.map_types.specs.declared.refusal.Errno.TheVariants as errnos
use Rattle.map_types.specs.declared.reply.Reply.{Reply}
use Rattle.map_types.specs.declared.reply.Reply.TheVariants.{Done, Refused}
use Rattle.map_types.specs.Kind.{is_lru}
use Rattle.percpu_values.specs.BodyList.{BodyList}
use Rattle.place_words.specs.Locks.{lock_number}
use Rattle.place_words.specs.Traces.{IsPlainTrace, spare_after}
use Rattle.place_table.specs.declared.content.Content.TheVariants as contents
use Rattle.place_table.specs.declared.view.Turned.{Turned}
use Rattle.place_table.specs.InBucket.{InBucket}
use Rattle.place_table.specs.Known.{Learns}
use Rattle.place_table.specs.Passes.{PassView, TableView, IsInNoCall, SparesDiffer, TookLock, Goes, with_view}
use Rattle.place_table.specs.Views.{notes_below}
use Rattle.hash_ops.specs.Calls.{turn_of, IsBy, spare_element, AreTold, LosesAtMost}
use Rattle.hash_ops.specs.declared.map.PlainRefusal.{PlainRefusal}
use Rattle.hash_ops.specs.declared.map.PlainRefusal.TheVariants as refusals

-- Without the locks that it holds the pass would be in no call: its CPUs have nothing in hand but the spares that it keeps, none of
-- which is out, and no element's home is in a hand of theirs.
abbrev pub HasItsSpares : PassView → Type 0
HasItsSpares q = IsInNoCall (with_view q (record q.view { held = [] }))

-- a pass in no call has taken a bucket, of a map that doesn't evict, whose CPUs share no lists
pub record Enters (t : TableView) (bucket : ℕ) (p q : PassView) (chain : BodyList) : Type 0 where
  pub plain : is_lru t.shape.kind ≡ false
  pub none_shared : t.shape.common ≡ false
  pub took : TookLock t (Bucket bucket) p q (contents.Bucket chain)
  pub inside : InBucket t bucket q chain.bodies
  pub spares : HasItsSpares q

-- The bucket was given back after these turns: the pass is in no call, and what else it knows is as before.
pub record LeftBucket (t : TableView) (q s : PassView) (steps : List Turned) (lost : List ℕ) : Type 0 where
  pub goes : Goes q s steps lost
  pub notes : s.view.notes ≡ notes_below q.view.notes
  pub bits : s.view.bits ≡ q.view.bits
  pub in_no_call : IsInNoCall s
  pub by_call : All (IsBy q.cpu q.call) steps
  pub other_spares : SparesDiffer q.cpu q.spares s.spares
  pub learns : Learns t.shape q.view s.view steps []

-- and the turns, as the call tells them, are a trace of the call with this reply
pub record Answered (t : TableView) (q s : PassView) (verb : Verb) (reply : Reply) : Type 0 where
  pub steps : List Turned
  pub lost : List ℕ
  pub finished : LeftBucket t q s steps lost
  pub told : List Turned
  pub told_are : AreTold t.shape lost steps told
  pub trace : IsPlainTrace t.shape q.cpu (spare_element q) verb (map (turn_of t.shape) told) reply
  pub spare : spare_element s ≡ spare_after (spare_element q) (map (turn_of t.shape) told)

-- the same, and no lock but the bucket's was given back without a part
abbrev pub AnsweredAt : TableView → ℕ → PassView → PassView → Verb → Reply → Type 0
AnsweredAt t bucket q s verb reply = (answered : Answered t q s verb reply) × LosesAtMost (lock_number t.shape (Bucket bucket)) answered.lost

-- an update in its bucket
abbrev pub UpdateEnds : TableView → ℕ → PassView → PassView → Verb → Result (Unit {0}) PlainRefusal → Type 0
UpdateEnds t bucket q s verb (Ok done) = AnsweredAt t bucket q s verb Done
UpdateEnds t bucket q s verb (Err refusals.Einval) = ⊥
UpdateEnds t bucket q s verb (Err refusals.Enoent) = AnsweredAt t bucket q s verb (Refused errnos.Enoent)
UpdateEnds t bucket q s verb (Err refusals.Eexist) = AnsweredAt t bucket q s verb (Refused errnos.Eexist)
UpdateEnds t bucket q s verb (Err refusals.E2big) = AnsweredAt t bucket q s verb (Refused errnos.E2big)
