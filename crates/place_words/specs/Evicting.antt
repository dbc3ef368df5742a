-- The turns of one call of a map that evicts, in the order in which their locks are given back, and the reply that goes
-- with them. The rules are those of the kernel's `htab_lru_map_update_elem`, `__htab_lru_percpu_map_update_elem`,
-- `htab_lru_map_delete_elem` and `__htab_map_lookup_and_delete_elem`. Next key, batches and
-- walks over all elements are told elsewhere, since they differ on maps that don't evict only in how a batch frees what it takes out.
use Rattle.std.specs.Prelude.{◌≡◌, ◌⊎◌, ℕ, ◌<◌, ◌≤◌, ◌==◌, ◌&&◌, IsTrue, IsFalse, MatchBool, MatchOption, List, [], ◌∷◌, ◌++◌, Option, None, Some}
use Rattle.map_types.specs.declared.attr.Shape.{Shape}
use Rattle.map_types.specs.declared.call.Verb.{Verb}
use Rattle.map_types.specs.declared.call.Verb.TheVariants as verbs
use Rattle.map_types.specs.declared.kind.Side.{Side}
use Rattle.map_types.specs.declared.refusal.Errno.TheVariants.{Enomem, Einval}
use Rattle.map_types.specs.declared.reply.Reply.{Reply}
use Rattle.map_types.specs.declared.reply.Reply.TheVariants.{Refused}
use Rattle.map_types.specs.Kind.{is_percpu}
use Rattle.key_hash.specs.Jhash.{hash}
use Rattle.place_words.specs.declared.bucket_part.BucketPart.TheVariants.{Update, Delete, Take}
use Rattle.place_words.specs.declared.bucket_part.Put.{Put}
use Rattle.place_words.specs.declared.bucket_part.Put.TheVariants as puts
use Rattle.place_words.specs.PlainTraces.{element_gone, reply_of_put, reply_of_got, reply_of_gone, IsLookupTrace}
use Rattle.place_words.specs.Takings.{Acquires, Frees}
use Rattle.place_words.specs.Turns.{TurnAt, turns_of, on_bucket_of}

-- an element is freed, where there is one
abbrev pub FreesOne : Shape → Option ℕ → List TurnAt → Type 0
FreesOne shape None turns = turns ≡ []
FreesOne shape (Some e) turns = Frees shape e turns

-- what an update may put that was offered this element: where there is a value for each CPU, it isn't needed for a present
-- key
abbrev pub MayPut : Shape → ℕ → Put → Type 0
MayPut shape e (puts.Added added) = added ≡ e
MayPut shape e (puts.Replaced new old) = (new ≡ e) × IsFalse (is_percpu shape.kind)
MayPut shape e (puts.Written written) = IsTrue (is_percpu shape.kind)
MayPut shape e puts.Exists = Unit {0}
MayPut shape e puts.Absent = Unit {0}
MayPut shape e puts.Full = ⊥

-- and which element is freed after it: the old one, or the offered one where it wasn't needed
abbrev pub left_over : ℕ → Put → Option ℕ
left_over e (puts.Added added) = None
left_over e (puts.Replaced new old) = Some old
left_over e (puts.Written written) = Some e
left_over e puts.Exists = Some e
left_over e puts.Absent = Some e
left_over e puts.Full = Some e

-- An element was taken and is offered to the key's bucket, and what is left over is freed.
pub record OffersOne (shape : Shape) (side : Side) (flags : ℕ) (key value : List ℕ) (e : ℕ) (turns : List TurnAt) (reply : Reply) : Type 0 where
  pub put : Put
  pub may_put : MayPut shape e put
  pub at_bucket : TurnAt
  pub freeing : List TurnAt
  pub turns_are : turns ≡ at_bucket ∷ freeing
  pub bucket_is : at_bucket.turn ≡ on_bucket_of shape key (Update side flags key value (Some e) put)
  pub frees : FreesOne shape (left_over e put) freeing
  pub reply_is : reply ≡ reply_of_put put

-- An update that takes an element first. Where there is none, it answers ENOMEM and looks at no bucket for its key.
pub record IsOfferTrace (shape : Shape) (cpu : ℕ) (side : Side) (flags : ℕ) (key value : List ℕ) (turns : List TurnAt) (reply : Reply) : Type 0 where
  pub got : Option ℕ
  pub taking : List TurnAt
  pub rest : List TurnAt
  pub turns_are : turns ≡ taking ++ rest
  pub takes : Acquires shape cpu (hash key shape.seed) got taking
  pub offers : MatchOption got ((rest ≡ []) × (reply ≡ Refused Enomem)) (λ e. OffersOne shape side flags key value e rest reply)

-- what an update may put that was offered nothing
abbrev pub MayPutAlone : Put → Type 0
MayPutAlone (puts.Added added) = ⊥
MayPutAlone (puts.Replaced new old) = ⊥
MayPutAlone (puts.Written written) = Unit {0}
MayPutAlone puts.Exists = ⊥
MayPutAlone puts.Absent = Unit {0}
MayPutAlone puts.Full = ⊥

-- An update that only writes in place takes nothing: that with BPF_EXIST (2) where there is a value for each CPU.
pub record IsWriteTrace (shape : Shape) (side : Side) (flags : ℕ) (key value : List ℕ) (turns : List TurnAt) (reply : Reply) : Type 0 where
  pub put : Put
  pub may_put : MayPutAlone put
  pub turns_are : turns_of turns ≡ on_bucket_of shape key (Update side flags key value None put) ∷ []
  pub reply_is : reply ≡ reply_of_put put

-- flags above BPF_EXIST (2) are refused before anything is looked at
abbrev pub IsEvictingUpdate : Shape → ℕ → Side → ℕ → List ℕ → List ℕ → List TurnAt → Reply → Type 0
IsEvictingUpdate shape cpu side flags key value turns reply =
    ((2 < flags) × (turns ≡ []) × (reply ≡ Refused Einval))
    ⊎ ((flags ≤ 2) × MatchBool (is_percpu shape.kind && (flags == 2))
    (IsWriteTrace shape side flags key value turns reply)
    (IsOfferTrace shape cpu side flags key value turns reply))

-- Delete, and take, which answers as the system call's lookup: the element is freed after the bucket's turn.
pub record IsEvictingDelete (shape : Shape) (key : List ℕ) (turns : List TurnAt) (reply : Reply) : Type 0 where
  pub gone : Option ℕ
  pub at_bucket : TurnAt
  pub freeing : List TurnAt
  pub turns_are : turns ≡ at_bucket ∷ freeing
  pub bucket_is : at_bucket.turn ≡ on_bucket_of shape key (Delete key gone)
  pub frees : FreesOne shape gone freeing
  pub reply_is : reply ≡ reply_of_gone gone

pub record IsEvictingTake (shape : Shape) (key : List ℕ) (turns : List TurnAt) (reply : Reply) : Type 0 where
  pub gone : Option (ℕ × List ℕ)
  pub at_bucket : TurnAt
  pub freeing : List TurnAt
  pub turns_are : turns ≡ at_bucket ∷ freeing
  pub bucket_is : at_bucket.turn ≡ on_bucket_of shape key (Take key gone)
  pub frees : FreesOne shape (element_gone gone) freeing
  pub reply_is : reply ≡ reply_of_got gone

-- the turns of a call on one key, and its reply
abbrev pub IsEvictingTrace : Shape → ℕ → Verb → List TurnAt → Reply → Type 0
IsEvictingTrace shape cpu (verbs.Lookup side key) turns reply = IsLookupTrace shape side key (turns_of turns) reply
IsEvictingTrace shape cpu (verbs.Update side flags key value) turns reply = IsEvictingUpdate shape cpu side flags key value turns reply
IsEvictingTrace shape cpu (verbs.Delete key) turns reply = IsEvictingDelete shape key turns reply
IsEvictingTrace shape cpu (verbs.Take key) turns reply = IsEvictingTake shape key turns reply
IsEvictingTrace shape cpu (verbs.Next key) turns reply = ⊥
IsEvictingTrace shape cpu (verbs.BatchRead remove count start flags) turns reply = ⊥
IsEvictingTrace shape cpu (verbs.BatchUpdate flags pairs) turns reply = ⊥
IsEvictingTrace shape cpu (verbs.BatchDelete flags keys) turns reply = ⊥
IsEvictingTrace shape cpu (verbs.Each flags stop) turns reply = ⊥
