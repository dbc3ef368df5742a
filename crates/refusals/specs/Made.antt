-- What the turns that a call made did, also those whose record is lost.
use Rattle.std.specs.Prelude.{◌≡◌, ℕ, List, [], ◌∷◌, ◌++◌, Option}
use Rattle.map_types.specs.declared.attr.Shape.{Shape}
use Rattle.map_types.specs.declared.kind.DomainId.TheVariants.{Bucket}
use Rattle.map_types.specs.declared.kind.Side.{Side}
use Rattle.map_types.specs.Stored.{Stored}
use Rattle.place_words.specs.declared.bucket_part.BucketPart.TheVariants.{Update}
use Rattle.place_words.specs.declared.bucket_part.Put.{Put}
use Rattle.place_words.specs.Histories.{Content, in_bucket, on_freelist, in_locals, in_global, in_own, content, content_after, Allows}
use Rattle.place_words.specs.Locks.{lock_named}
use Rattle.place_words.specs.Turns.{Turn, bucket_of_key, on_bucket_of}
use Rattle.place_table.specs.declared.view.Turned.{Turned}

-- what lay under the lock of a turn that was made, and what the turn left there
abbrev pub lay : Shape → Turned → Content
lay shape step = content shape (lock_named shape step.lock) step.earlier

abbrev pub left : Shape → Turned → Content
left shape step = content_after shape step.entry.cpu step.entry.part (lay shape step)

-- the elements of the bucket that lies there, and those of the free list
abbrev pub bodies_in : Content → List Stored
bodies_in (in_bucket bodies) = bodies
bodies_in lies = []

abbrev pub free_in : Content → List ℕ
free_in (in_bucket bodies) = []
free_in (on_freelist stack) = stack
free_in (in_locals lists) = lists.free
free_in (in_global set) = set.free
free_in (in_own set) = set.free

-- it was a turn of the bucket of this key
abbrev pub IsOfBucketOf : Shape → List ℕ → Turned → Type 0
IsOfBucketOf shape key step = lock_named shape step.lock ≡ Bucket (bucket_of_key shape key)

-- A turn that was made did what this one tells: it was of the same lock, the part is allowed on what lay there, and what was left is
-- what the part leaves.
pub record Did (shape : Shape) (cpu : ℕ) (step : Turned) (turn : Turn) : Type 0 where
  pub lock_is : lock_named shape step.lock ≡ turn.lock
  pub allowed : Allows shape cpu turn.part (lay shape step)
  pub leaves : left shape step ≡ content_after shape cpu turn.part (lay shape step)

-- turns that were made did these, one by one
abbrev pub AllDid : Shape → ℕ → List Turned → List Turn → Type 0
AllDid shape cpu [] [] = Unit {0}
AllDid shape cpu [] (turn ∷ turns) = ⊥
AllDid shape cpu (step ∷ steps) [] = ⊥
AllDid shape cpu (step ∷ steps) (turn ∷ turns) = Did shape cpu step turn × AllDid shape cpu steps turns

-- the call made one turn, of the key's bucket, and this holds of it
abbrev pub MadeOnly : Shape → List ℕ → List Turned → (Turned → Type 0) → Type 0
MadeOnly shape key steps Fact = (step : Turned) × (steps ≡ step ∷ []) × IsOfBucketOf shape key step × Fact step

-- The call made an update's turn of the key's bucket, and this holds of it.
abbrev pub MadeUpdate : (shape : Shape) (cpu : ℕ) (side : Side) (flags : ℕ) (key value : List ℕ) → List Turned → (Turned → Type 0) → Type 0
MadeUpdate shape cpu side flags key value steps Fact =
    (front : List Turned) × (step : Turned) × (back : List Turned) × (offer : Option ℕ) × (put : Put) × (steps ≡ front ++ step ∷ back)
    × Did shape cpu step (on_bucket_of shape key (Update side flags key value offer put)) × Fact step
