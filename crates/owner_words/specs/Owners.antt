-- What the turns of a map that evicts make of the owners of its elements, in the order of their tickets.
use Rattle.std.specs.Prelude.{◌≡◌, ℕ, suc, ◌==◌, List, [], ◌∷◌, ◌++◌, Some, None, IsTrue, slice_get, if◌then◌else◌}
use Rattle.map_types.specs.declared.attr.Shape.{Shape}
use Rattle.map_types.specs.declared.kind.DomainId.{DomainId}
use Rattle.place_words.specs.declared.bucket_part.BucketPart.TheVariants.{Evict}
use Rattle.place_words.specs.declared.bucket_part.Seen.TheVariants.{Held}
use Rattle.place_words.specs.declared.history.Entry.{Entry}
use Rattle.place_words.specs.declared.history.Part.{Part}
use Rattle.place_words.specs.declared.history.Part.TheVariants as parts
use Rattle.place_words.specs.declared.owner.Owner.{Owner}
use Rattle.place_words.specs.declared.owner.Owner.TheVariants.{Free, Hand, Bucket}
use Rattle.place_words.specs.declared.step.Step.{Step}
use Rattle.place_words.specs.declared.step.Step.TheVariants.{Take, Give, Claim, Settle, Attach, Detach, Rehome, Mark, Clear, Glance}
use Rattle.place_words.specs.Interleaving.{part_steps}
use Rattle.place_words.specs.Locks.{is_lock}
use Rattle.place_words.specs.OpeningState.{opening}

-- what a step of the core makes of the owner of an element
abbrev pub owner_after : Step → ℕ → Owner → Owner
owner_after (Take cpu lock) e owner = owner
owner_after (Give cpu lock lists) e owner = owner
owner_after (Claim cpu x lock) e owner = if x == e then Hand cpu else owner
owner_after (Settle cpu x lock) e owner = if x == e then Free else owner
owner_after (Attach cpu x bucket) e owner = if x == e then Bucket bucket else owner
owner_after (Detach cpu x bucket) e owner = if x == e then Hand cpu else owner
owner_after (Rehome cpu x to) e owner = owner
owner_after (Mark cpu x bucket) e owner = owner
owner_after (Clear cpu x) e owner = owner
owner_after (Glance cpu x) e owner = owner

-- and what steps make of it, one after another
abbrev pub owner_by : List Step → ℕ → Owner → Owner
owner_by [] e owner = owner
owner_by (step ∷ steps) e owner = owner_by steps e (owner_after step e owner)

-- What a turn makes of it. On a map that evicts no turn of its locks has steps that depend on the turns around it.
abbrev pub owner_told : Shape → DomainId → ℕ → Part → ℕ → Owner → Owner
owner_told shape lock cpu part e owner = owner_by (part_steps shape cpu lock None part) e owner

-- Where the turns have the tickets 0, 1, 2 and so on, each once: of each number and each element its owner once the turns with lower
-- tickets were made. With 0 it is that of the map's opening; a turn makes of the owner with its ticket that with the next number; and a
-- probe that found an element in a hand found it in that which it has with the probe's ticket. `entries` has the turns of each lock of
-- the map.
pub record OwnersTold (shape : Shape) (entries : DomainId → List Entry) : Type 0 where
  pub owner : ℕ → ℕ → Owner
  pub first : (e : ℕ) → owner 0 e ≡ (opening shape).owner e
  pub told : (lock : DomainId) (place : ℕ) (entry : Entry) → IsTrue (is_lock shape lock) → slice_get (entries lock) place ≡ Some entry
      → (e : ℕ) → owner (suc entry.ticket) e ≡ owner_told shape lock entry.cpu entry.part e (owner entry.ticket e)
  pub seen : (lock : DomainId) (place : ℕ) (entry : Entry) → IsTrue (is_lock shape lock) → slice_get (entries lock) place ≡ Some entry
      → (e holder : ℕ) → entry.part ≡ parts.Bucket (Evict e (Held holder)) → owner entry.ticket e ≡ Hand holder

-- What some steps and then others make of an owner is what the others make of what the first made.
abbrev pub OneByOne : Type 0
OneByOne = (steps more : List Step) (e : ℕ) (owner : Owner) → owner_by (steps ++ more) e owner ≡ owner_by more e (owner_by steps e owner)
