-- An update's turn of its key's bucket: what it is called with and offered, and what it puts there.
use Rattle.std.specs.Prelude.{◌≡◌, ℕ, true, false, List, length, Option, None, Some, IsTrue, if◌then◌else◌}
use Rattle.map_types.specs.declared.call.Verb.{Verb}
use Rattle.map_types.specs.declared.call.Verb.TheVariants as verbs
use Rattle.map_types.specs.declared.kind.MapKind.{MapKind}
use Rattle.map_types.specs.declared.kind.Side.{Side}
use Rattle.map_types.specs.Kind.{is_lru}
use Rattle.map_types.specs.Stored.{Stored, IsSized}
use Rattle.map_types.specs.ValueLen.{value_len_of}
use Rattle.place_words.specs.declared.bucket_part.BucketPart.TheVariants.{Update}
use Rattle.place_words.specs.declared.bucket_part.Put.{Put}
use Rattle.place_words.specs.declared.bucket_part.Put.TheVariants as puts
use Rattle.place_words.specs.declared.history.Part.{Part}
use Rattle.place_words.specs.declared.history.Part.TheVariants as parts
use Rattle.place_words.specs.Turns.{bucket_of_key}
use Rattle.place_table.specs.Passes.{PassView, TableView}
use Rattle.place_table.specs.Views.{is_in_hand_of, bucket_known, with_in_hand, without_in_hand}
use Rattle.place_table.specs.BucketTurns.{GivenBack, IsOut}

-- What an update was called with.
pub record UpdateCall : Type 0 where
  pub side : Side
  pub flags : ℕ
  pub key : List ℕ
  pub value : List ℕ

abbrev pub update_call : Side → ℕ → List ℕ → List ℕ → UpdateCall
update_call side flags key value = record { side = side; flags = flags; key = key; value = value }

-- the call that it is
abbrev pub verb_of : UpdateCall → Verb
verb_of update = verbs.Update update.side update.flags update.key update.value

-- An update, and the element that its entry says it was offered, if any.
pub record Asked : Type 0 where
  pub update : UpdateCall
  pub offer : Option ℕ

abbrev pub with_offer : UpdateCall → Option ℕ → Asked
with_offer update offer = record { update = update; offer = offer }

abbrev pub asked_of : Side → ℕ → List ℕ → List ℕ → Option ℕ → Asked
asked_of side flags key value offer = with_offer (update_call side flags key value) offer

-- what it says where it puts this element: on a map that evicts that it was offered it, and on another that it was offered none
abbrev pub offer_on : MapKind → ℕ → Option ℕ
offer_on kind e = if is_lru kind then Some e else None

-- what an update gives: a key of the bucket and a value of its side
pub record AreUpdateArguments (t : TableView) (bucket : ℕ) (side : Side) (key value : List ℕ) : Type 0 where
  pub bucket_is : bucket ≡ bucket_of_key t.shape key
  pub key_sized : length key ≡ t.shape.key_size
  pub value_sized : length value ≡ value_len_of t.shape side

-- An element is in the CPU's hand. On a map that evicts it was taken for a key of this bucket, and the CPU doesn't carry it.
pub record IsOffered (t : TableView) (bucket : ℕ) (q : PassView) (body : Stored) : Type 0 where
  pub sized : IsSized t.shape body
  pub in_hand : is_in_hand_of body.element q.cpu q.view.hand ≡ true
  pub not_carried : IsTrue (is_lru t.shape.kind) → is_in_hand_of body.element q.cpu q.view.carried ≡ false
  pub hashed : IsTrue (is_lru t.shape.kind) → bucket_known body.element q.cpu q.view.hashes ≡ Some bucket

-- the entry of an update
abbrev pub update_part : Asked → Put → Part
update_part asked put = parts.Bucket (Update asked.update.side asked.update.flags asked.update.key asked.update.value asked.offer put)

-- and where it puts this element
abbrev pub put_part : TableView → UpdateCall → ℕ → Put → Part
put_part t update e put = update_part (with_offer update (offer_on t.shape.kind e)) put

-- The bucket was given back with the entry of an update that moved no element.
abbrev pub PutsInPlace : TableView → ℕ → PassView → PassView → Asked → Put → Type 0
PutsInPlace t bucket q s asked put = GivenBack t bucket q s (update_part asked put) q.view.hand

-- an update is refused in its bucket
abbrev pub IsRefusal : Put → Type 0
IsRefusal (puts.Added e) = ⊥
IsRefusal (puts.Replaced new old) = ⊥
IsRefusal (puts.Written e) = ⊥
IsRefusal puts.Exists = Unit {0}
IsRefusal puts.Absent = Unit {0}
IsRefusal puts.Full = Unit {0}

-- An element that was in the CPU's hand was added for an absent key.
abbrev pub Adds : TableView → ℕ → PassView → PassView → UpdateCall → ℕ → Type 0
Adds t bucket q s update e = GivenBack t bucket q s (put_part t update e (puts.Added e)) (without_in_hand e q.cpu q.view.hand)

-- One that was in the CPU's hand took the place of a present key's, which is in that hand now.
pub record Replaces (t : TableView) (bucket : ℕ) (q s : PassView) (update : UpdateCall) (e : ℕ) (old : Stored) : Type 0 where
  pub gives : GivenBack t bucket q s (put_part t update e (puts.Replaced e old.element)) (with_in_hand old.element q.cpu (without_in_hand e q.cpu q.view.hand))
  pub is_out : IsOut t (Some old)

-- a key was written in place
pub record Writes (t : TableView) (bucket : ℕ) (q s : PassView) (asked : Asked) : Type 0 where
  pub written : ℕ
  pub gives : PutsInPlace t bucket q s asked (puts.Written written)
