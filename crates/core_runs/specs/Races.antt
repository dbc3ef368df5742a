-- What is asked of the turns of a race, in the order of their tickets, that their interleaving be decided by words.
use Rattle.std.specs.Prelude.{◌≡◌, ℕ, Bool, IsTrue, List, [], ◌∷◌, Option, None, Some, if◌then◌else◌}
use Rattle.map_types.specs.declared.attr.Shape.{Shape}
use Rattle.map_types.specs.declared.kind.DomainId.{DomainId}
use Rattle.map_types.specs.declared.kind.DomainId.TheVariants.{CpuLru, Bucket, Freelist}
use Rattle.map_types.specs.Kind.{is_lru}
use Rattle.map_types.specs.ElementLists.{put, times}
use Rattle.place_words.specs.declared.bucket_part.BucketPart.{BucketPart}
use Rattle.place_words.specs.declared.bucket_part.BucketPart.TheVariants.{Lookup, Update, Delete, Take, Next, First, Walk, Evict}
use Rattle.place_words.specs.declared.free_part.FreePart.{FreePart}
use Rattle.place_words.specs.declared.free_part.FreePart.TheVariants.{Pushed, Popped, FoundEmpty}
use Rattle.place_words.specs.declared.history.Part.{Part}
use Rattle.place_words.specs.declared.history.Part.TheVariants as parts
use Rattle.place_words.specs.Histories.{Content, Allows}
use Rattle.place_words.specs.Locks.{is_lock}
use Rattle.place_words.specs.Moves.{taken_from_bucket}
use Rattle.place_words.specs.Turns.{after_turn}
use Rattle.place_words.specs.Interleaving.{Drawn, turn_of, enclosing, bucket_around, bucket_of_lock}

-- what leaves a bucket in the turns of freelists inside a turn: on a map that doesn't evict all that is taken out for good
abbrev pub left_inside : Bool → BucketPart → List ℕ
left_inside lru (Lookup side key got) = []
left_inside lru (Update side flags key value offer put) = []
left_inside lru (Delete key removed) = if lru then [] else taken_from_bucket (Delete key removed)
left_inside lru (Take key removed) = if lru then [] else taken_from_bucket (Take key removed)
left_inside lru (Next key found) = []
left_inside lru (First key) = []
left_inside lru (Walk remove room result) = if lru then [] else taken_from_bucket (Walk remove room result)
left_inside lru (Evict e probed) = []

-- a turn of a bucket: what was pushed inside it is what it takes out
pub record PaysBucket (shape : Shape) (owed : ℕ → List ℕ) (lock : DomainId) (part : BucketPart) : Type 0 where
  pub bucket : ℕ
  pub lock_is : lock ≡ Bucket bucket
  pub there : IsTrue (is_lock shape (Bucket bucket))
  pub paid : (e : ℕ) → times e (owed bucket) ≡ times e (left_inside (is_lru shape.kind) part)

-- a push is made inside the turn of a bucket
pub record IsInBucketTurn (shape : Shape) (around : Option ℕ) : Type 0 where
  pub bucket : ℕ
  pub around_is : around ≡ Some bucket
  pub there : IsTrue (is_lock shape (Bucket bucket))

abbrev pub PushesInside : Shape → Option ℕ → FreePart → Type 0
PushesInside shape around (Pushed e) = IsInBucketTurn shape around
PushesInside shape around (Popped e) = Unit {0}
PushesInside shape around FoundEmpty = Unit {0}

pub record PaysFree (shape : Shape) (around : Option ℕ) (lock : DomainId) (part : FreePart) : Type 0 where
  pub cpu : ℕ
  pub lock_is : lock ≡ Freelist cpu
  pub there : IsTrue (is_lock shape (Freelist cpu))
  pub inside : PushesInside shape around part

pub record PaysOwn (shape : Shape) (lock : DomainId) : Type 0 where
  pub cpu : ℕ
  pub lock_is : lock ≡ CpuLru cpu
  pub there : IsTrue (is_lock shape (CpuLru cpu))

-- maps that don't evict, and those that do where each CPU has lists of its own
abbrev pub PaysAt : Shape → (ℕ → List ℕ) → Option ℕ → DomainId → Part → Type 0
PaysAt shape owed around lock (parts.Bucket part) = PaysBucket shape owed lock part
PaysAt shape owed around lock (parts.Free part) = PaysFree shape around lock part
PaysAt shape owed around lock (parts.Local part) = ⊥
PaysAt shape owed around lock (parts.Global part) = ⊥
PaysAt shape owed around lock (parts.Own part) = PaysOwn shape lock

-- what was pushed inside the turn of each bucket that is under way
abbrev pub owed_for : Option ℕ → ℕ → (ℕ → List ℕ) → ℕ → List ℕ
owed_for None e owed = owed
owed_for (Some bucket) e owed = put owed bucket (e ∷ owed bucket)

abbrev pub owed_pushed : Option ℕ → FreePart → (ℕ → List ℕ) → ℕ → List ℕ
owed_pushed around (Pushed e) owed = owed_for around e owed
owed_pushed around (Popped e) owed = owed
owed_pushed around FoundEmpty owed = owed

abbrev pub owed_given : Option ℕ → (ℕ → List ℕ) → ℕ → List ℕ
owed_given None owed = owed
owed_given (Some bucket) owed = put owed bucket []

abbrev pub owed_after : Option ℕ → DomainId → Part → (ℕ → List ℕ) → ℕ → List ℕ
owed_after around lock (parts.Bucket part) owed = owed_given (bucket_of_lock lock) owed
owed_after around lock (parts.Free part) owed = owed_pushed around part owed
owed_after around lock (parts.Local part) owed = owed
owed_after around lock (parts.Global part) owed = owed
owed_after around lock (parts.Own part) owed = owed

-- Each turn may be made where it stands in its lock's history, and is of a lock of its sort; pushes are made inside turns of buckets,
-- and each turn of a bucket has those inside it that its part says.
unfoldable pub AreTurns : Shape → (DomainId → Content) → (ℕ → List ℕ) → List Drawn → Type 0
AreTurns shape contents owed [] = Unit {0}
AreTurns shape contents owed (x ∷ later) =
    PaysAt shape owed (bucket_around (enclosing x later)) x.lock x.entry.part
    × Allows shape x.entry.cpu x.entry.part (contents x.lock)
    × AreTurns shape (after_turn shape x.entry.cpu contents (turn_of x)) (owed_after (bucket_around (enclosing x later)) x.lock x.entry.part owed) later
