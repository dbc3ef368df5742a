-- The turns that a strand's steps name, in the histories of a map that doesn't evict: those of its buckets in their order, then those
-- of the CPUs' freelists.
use Rattle.std.specs.Prelude.{ℕ, ◌+◌, ◌-◌, ◌<◌, List, [], length, map, slice_index_or, Option, None}
use Rattle.map_types.specs.declared.kind.DomainId.{DomainId}
use Rattle.map_types.specs.declared.kind.DomainId.TheVariants.{Local, Global, CpuLru, Bucket, Freelist}
use Rattle.place_words.specs.declared.free_part.FreePart.TheVariants.{FoundEmpty}
use Rattle.place_words.specs.declared.history.Entry.{Entry}
use Rattle.place_words.specs.declared.history.LockHistory.{LockHistory}
use Rattle.place_words.specs.declared.history.Part.{Part}
use Rattle.place_words.specs.declared.history.Part.TheVariants as parts
use Rattle.place_words.specs.declared.history.StrandStep.{StrandStep}
use Rattle.place_words.specs.Turns.{Turn, on_lock}

-- where a lock's history stands, on a map of so many buckets
abbrev pub history_place : ℕ → DomainId → ℕ
history_place buckets (Local cpu) = 0
history_place buckets Global = 0
history_place buckets (CpuLru cpu) = 0
history_place buckets (Bucket bucket) = bucket
history_place buckets (Freelist cpu) = buckets + cpu

-- its entries
abbrev pub entries_at : ℕ → List LockHistory → DomainId → List Entry
entries_at buckets histories lock =
    (slice_index_or histories (history_place buckets lock) (record { lock = lock; entries = [] })).entries

-- the turn that a step names
abbrev pub part_at : ℕ → List LockHistory → StrandStep → Part
part_at buckets histories step =
    (slice_index_or (entries_at buckets histories step.lock) step.index (record { ticket = 0; cpu = 0; call = 0; part = parts.Free FoundEmpty })).part

abbrev pub turn_at : ℕ → List LockHistory → StrandStep → Turn
turn_at buckets histories step = on_lock step.lock (part_at buckets histories step)

abbrev pub turns_at : ℕ → List LockHistory → List StrandStep → List Turn
turns_at buckets histories steps = map (turn_at buckets histories) steps

-- it names one
abbrev pub IsEntry : ℕ → List LockHistory → StrandStep → Type 0
IsEntry buckets histories step =
    (history_place buckets step.lock < length histories) × (step.index < length (entries_at buckets histories step.lock))

-- Of a strand's turns the spare of the CPU before each. That before the first of so many turns that are left:
abbrev pub spare_before : List (Option ℕ) → ℕ → Option ℕ
spare_before spares left = slice_index_or spares (length spares - left) None
