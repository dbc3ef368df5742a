-- Turns of locks: which lock it was, what was done under it, and what came before it there.
use Rattle.std.specs.Prelude.{ℕ, ◌-◌, List, [], ◌∷◌, ◌++◌, map, if◌then◌else◌}
use Rattle.std.specs.List.{range_with_len}
use Rattle.map_types.specs.declared.attr.Shape.{Shape}
use Rattle.map_types.specs.declared.kind.DomainId.{DomainId}
use Rattle.map_types.specs.declared.kind.DomainId.TheVariants.{Bucket, Freelist}
use Rattle.key_hash.specs.Jhash.{hash}
use Rattle.key_hash.specs.Bucket.{bucket_number}
use Rattle.place_words.specs.declared.bucket_part.BucketPart.{BucketPart}
use Rattle.place_words.specs.declared.free_part.FreePart.{FreePart}
use Rattle.place_words.specs.declared.history.Entry.{Entry}
use Rattle.place_words.specs.declared.history.Part.{Part}
use Rattle.place_words.specs.declared.history.Part.TheVariants as parts
use Rattle.place_words.specs.Histories.{Content, Allows, content_after, content, IsLegal}
use Rattle.place_words.specs.Locks.{is_same_lock}

-- a turn of a lock: which lock it was, and what was done under it
pub record Turn : Type 0 where
  pub lock : DomainId
  pub part : Part

-- A turn at its place: the entries that the history of its lock had before it. What lay there follows from these.
pub record TurnAt : Type 0 where
  pub turn : Turn
  pub earlier : List Entry

-- the turns alone
abbrev pub turns_of : List TurnAt → List Turn
turns_of turns = map (λ (at : TurnAt). at.turn) turns

-- what lay under its lock at that moment
abbrev pub found : Shape → TurnAt → Content
found shape at = content shape at.turn.lock at.earlier

-- A turn stands in a history that replays by the kernel's rules: what came before it does, and it may be made at its place.
abbrev pub IsLegalAt : Shape → ℕ → TurnAt → Type 0
IsLegalAt shape cpu at = IsLegal shape at.turn.lock at.earlier × Allows shape cpu at.turn.part (found shape at)

abbrev pub AreLegalAt : Shape → ℕ → List TurnAt → Type 0
AreLegalAt shape cpu [] = Unit {0}
AreLegalAt shape cpu (at ∷ turns) = IsLegalAt shape cpu at × AreLegalAt shape cpu turns

-- the bucket of a key
abbrev pub bucket_of_key : Shape → List ℕ → ℕ
bucket_of_key shape key = bucket_number (hash key shape.seed) shape.buckets

-- the CPUs in the order in which one of them looks at their lists: from its own upwards, wrapping
abbrev pub ring : ℕ → ℕ → List ℕ
ring cpu cpus = range_with_len cpu (cpus - cpu) ++ range_with_len 0 cpu

-- a turn of a lock, of the bucket of a key, and of a CPU's freelist
abbrev pub on_lock : DomainId → Part → Turn
on_lock lock part = record { lock = lock; part = part }

abbrev pub on_bucket_of : Shape → List ℕ → BucketPart → Turn
on_bucket_of shape key part = record { lock = Bucket (bucket_of_key shape key); part = parts.Bucket part }

abbrev pub on_freelist_of : ℕ → FreePart → Turn
on_freelist_of cpu part = record { lock = Freelist cpu; part = parts.Free part }

-- from what lies under each lock, what lies there after a CPU's turn
abbrev pub after_turn : Shape → ℕ → (DomainId → Content) → Turn → DomainId → Content
after_turn shape cpu contents turn lock =
    if is_same_lock turn.lock lock then content_after shape cpu turn.part (contents lock) else contents lock

-- and after some turns in their order
abbrev pub after_turns : Shape → ℕ → (DomainId → Content) → List Turn → DomainId → Content
after_turns shape cpu contents [] = contents
after_turns shape cpu contents (turn ∷ turns) = after_turns shape cpu (after_turn shape cpu contents turn) turns

-- each of them may be made at its place
abbrev pub AreAllowed : Shape → ℕ → (DomainId → Content) → List Turn → Type 0
AreAllowed shape cpu contents [] = Unit {0}
AreAllowed shape cpu contents (turn ∷ turns) =
    Allows shape cpu turn.part (contents turn.lock) × AreAllowed shape cpu (after_turn shape cpu contents turn) turns
