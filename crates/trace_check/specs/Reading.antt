-- Reading at the beginning of turns: what was read there, and the turns behind it.
use Rattle.std.specs.Prelude.{◌≡◌, ◌≢◌, MatchOption, ℕ, ◌==◌, ◌&&◌, ◌||◌, Bool, true, false, List, [], ◌∷◌, ◌++◌, Option, None, Some, if◌then◌else◌}
use Rattle.map_types.specs.declared.kind.DomainId.TheVariants.{Bucket}
use Rattle.map_types.specs.declared.kind.Side.{Side}
use Rattle.map_types.specs.declared.kind.Side.TheVariants.{Prog, Sys}
use Rattle.place_words.specs.declared.bucket_part.BucketPart.{BucketPart}
use Rattle.place_words.specs.declared.free_part.FreePart.{FreePart}
use Rattle.place_words.specs.declared.free_part.FreePart.TheVariants.{Pushed, Popped, FoundEmpty}
use Rattle.place_words.specs.declared.history.Part.{Part}
use Rattle.place_words.specs.declared.history.Part.TheVariants as parts
use Rattle.place_words.specs.Locks.{is_same_lock}
use Rattle.place_words.specs.Turns.{Turn, on_freelist_of}

-- a reader of turns: none where no beginning of them is what it reads
abbrev pub Reads : Type 0 → Type 0
Reads A = List Turn → Option (A × List Turn)

-- these turns are what was read at the beginning of others
pub record Found {A : Type 0} (Rel : List Turn → A → Type 0) (turns rest : List Turn) (a : A) : Type 0 where
  pub read : List Turn
  pub turns_are : turns ≡ read ++ rest
  pub is : Rel read a

-- What is read stands in the relation; and what stands in it is read, whatever follows. So no two beginnings of the same turns
-- stand in it, nor one with two answers.
pub record IsReader {A : Type 0} (Rel : List Turn → A → Type 0) (read : Reads A) : Type 0 where
  pub sound : (turns rest : List Turn) (a : A) → read turns ≡ Some (a, rest) → Found Rel turns rest a
  pub complete : (xs rest : List Turn) (a : A) → Rel xs a → read (xs ++ rest) ≡ Some (a, rest)

-- whether this was read, and with which turns behind it
abbrev pub IsReadAs : {A : Type 0} → Option (A × List Turn) → A → Option (List Turn) → Type 0
IsReadAs found a result = MatchOption result ((rest : List Turn) → found ≢ Some (a, rest)) (λ rest. found ≡ Some (a, rest))

-- nothing is read, and this answered
abbrev pub read_nothing : {A : Type 0} → A → Reads A
read_nothing a turns = Some (a, turns)

-- what was read is told in another way
abbrev pub told : {A B : Type 0} → (A → B) → Option (A × List Turn) → Option (B × List Turn)
told f None = None
told f (Some found) = Some (f found.0, found.1)

abbrev pub read_as : {A B : Type 0} → (A → B) → Reads A → Reads B
read_as f read turns = told f (read turns)

-- one after another: what comes second may go by what the first answered
abbrev pub then_read : {A B : Type 0} → (A → Reads B) → Option (A × List Turn) → Option (B × List Turn)
then_read next None = None
then_read next (Some found) = next found.0 found.1

abbrev pub read_then : {A B : Type 0} → Reads A → (A → Reads B) → Reads B
read_then first next turns = then_read next (first turns)

-- a turn of a freelist, by what was done under its lock
abbrev pub is_free : Part → Bool
is_free (parts.Bucket part) = false
is_free (parts.Free part) = true
is_free (parts.Local part) = false
is_free (parts.Global part) = false
is_free (parts.Own part) = false

-- A turn that isn't of a freelist, with the turns of freelists before it: those inside it and those in which its call looked for
-- an element. Every call on a map that doesn't evict is a row of such groups.
abbrev pub with_rest : {A : Type 0} → List Turn → Option A → Option (A × List Turn)
with_rest rest None = None
with_rest rest (Some a) = Some (a, rest)

abbrev pub read_group : {A : Type 0} → List Turn → (List Turn → Turn → Option A) → Option (A × List Turn)
read_group [] says = None
read_group (turn ∷ turns) says =
    if is_free turn.part then read_group turns (λ before. says (turn ∷ before)) else with_rest turns (says [] turn)

-- What a turn of a bucket tells, if it is of this bucket, and if the turns of freelists before it are as that asks.
abbrev pub of_bucket : {A : Type 0} → (BucketPart → Option A) → Part → Option A
of_bucket says (parts.Bucket part) = says part
of_bucket says (parts.Free part) = None
of_bucket says (parts.Local part) = None
of_bucket says (parts.Global part) = None
of_bucket says (parts.Own part) = None

abbrev pub at_bucket : {A : Type 0} → ℕ → (BucketPart → Option A) → Turn → Option A
at_bucket bucket says turn = if is_same_lock turn.lock (Bucket bucket) then of_bucket says turn.part else None

abbrev pub when : {A : Type 0} → Bool → A → Option A
when test a = if test then Some a else None

abbrev pub checked : {A : Type 0} → (A → Bool) → Option A → Option A
checked test None = None
checked test (Some a) = when (test a) a

abbrev pub read_at : {A : Type 0} → ℕ → (BucketPart → Option A) → (A → List Turn → Bool) → Reads A
read_at bucket says looks turns = read_group turns (λ before last. checked (λ a. looks a before) (at_bucket bucket says last))

-- What stands at the beginning: what a turn of this bucket did, with the turns of freelists before it.
abbrev pub Group : Type 0
Group = List Turn × BucketPart

abbrev pub with_before : List Turn → Option BucketPart → Option Group
with_before before None = None
with_before before (Some part) = Some (before, part)

unfoldable pub bucket_group : ℕ → List Turn → Option (Group × List Turn)
bucket_group bucket turns = read_group turns (λ before last. with_before before (at_bucket bucket Some last))

-- whether two sides are one, and two turns of freelists
abbrev pub same_side : Side → Side → Bool
same_side Prog Prog = true
same_side Sys Sys = true
same_side Prog Sys = false
same_side Sys Prog = false

abbrev pub same_free : FreePart → FreePart → Bool
same_free (Pushed e) (Pushed x) = e == x
same_free (Popped e) (Popped x) = e == x
same_free FoundEmpty FoundEmpty = true
same_free part other = false

abbrev pub same_part : Part → Part → Bool
same_part (parts.Free part) (parts.Free other) = same_free part other
same_part part other = false

abbrev pub same_turn : Turn → Turn → Bool
same_turn turn other = is_same_lock turn.lock other.lock && same_part turn.part other.part

abbrev pub same_turns : List Turn → List Turn → Bool
same_turns [] [] = true
same_turns [] (other ∷ others) = false
same_turns (turn ∷ turns) [] = false
same_turns (turn ∷ turns) (other ∷ others) = same_turn turn other && same_turns turns others

-- whether these turns are a pop of the element, with the freelists in this order
abbrev pub are_pops : List ℕ → ℕ → List Turn → Bool
are_pops [] e turns = false
are_pops (cpu ∷ cpus) e [] = false
are_pops (cpu ∷ cpus) e (turn ∷ turns) =
    (same_turn (on_freelist_of cpu FoundEmpty) turn && are_pops cpus e turns) || (same_turns (on_freelist_of cpu (Popped e) ∷ []) (turn ∷ turns))
