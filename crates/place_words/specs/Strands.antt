-- The turns of some CPUs in their order, and how the turns of a lock are shared out among them.
use Rattle.std.specs.Prelude.{◌≡◌, ℕ, ◌<◌, ◌==◌, List, [], ◌∷◌, length, filter, slice_get, Some, if◌then◌else◌}
use Rattle.std.specs.List.{range_with_len}
use Rattle.map_types.specs.declared.kind.DomainId.{DomainId}
use Rattle.place_words.specs.declared.history.Entry.{Entry}
use Rattle.place_words.specs.declared.history.Strand.{Strand}
use Rattle.place_words.specs.declared.history.StrandStep.{StrandStep}
use Rattle.place_words.specs.Locks.{is_same_lock}
use Rattle.map_types.specs.ElementLists.{IsIn}

-- the places in a lock's history that the steps on this lock name, in order
abbrev pub places_on : DomainId → List StrandStep → List ℕ
places_on lock [] = []
places_on lock (step ∷ steps) =
    if is_same_lock step.lock lock then step.index ∷ places_on lock steps else places_on lock steps

-- the places below n that belong to this strand, in order
abbrev pub places_of : (ℕ → ℕ) → ℕ → ℕ → List ℕ
places_of strand_at strand n = filter (λ place. strand_at place == strand) (range_with_len 0 n)

-- The entries of a lock's history are shared out among the strands: each is a step of exactly one strand, which has the
-- CPU of the entry, and in each strand the steps on the lock ascend.
pub record AreSharedOut (lock : DomainId) (strands : List Strand) (entries : List Entry) : Type 0 where
  -- of a place in the history: the strand, by its place among them
  pub strand_at : ℕ → ℕ
  pub within : (place : ℕ) → place < length entries → strand_at place < length strands
  pub has_cpu : (place : ℕ) (entry : Entry) (strand : Strand) → slice_get entries place ≡ Some entry → slice_get strands (strand_at place) ≡ Some strand → IsIn entry.cpu strand.cpus
  pub steps : (n : ℕ) (strand : Strand) → slice_get strands n ≡ Some strand → places_on lock strand.steps ≡ places_of strand_at n (length entries)
