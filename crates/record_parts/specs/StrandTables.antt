-- The tables by which strands are judged: how many entries each CPU has in each phase, which CPUs were met in a strand of each
-- phase, where the history of each lock stands, and behind which place of it the next step of a strand is to be.
use Rattle.std.specs.Prelude.{◌≡◌, ℕ, suc, ◌+◌, ◌*◌, ◌<◌, ◌==◌, ◌&&◌, nat_le, Bool, true, false, List, [], ◌∷◌, All, count_by, filter, length, map, slice_get, slice_index_or, if◌then◌else◌}
use Rattle.std.specs.List.{list_any, range_with_len, sum_by}
use Rattle.map_types.specs.declared.attr.Shape.{Shape}
use Rattle.map_types.specs.ElementLists.{put}
use Rattle.place_words.specs.declared.history.Entry.{Entry}
use Rattle.place_words.specs.declared.history.LockHistory.{LockHistory}
use Rattle.place_words.specs.declared.history.Strand.{Strand}
use Rattle.place_words.specs.declared.history.StrandStep.{StrandStep}
use Rattle.place_words.specs.Locks.{is_lock, lock_count, lock_named, lock_number}
use Rattle.place_words.specs.Phases.{phase_of}
use Rattle.map_report.specs.Record.{entries_of, has_cpu}
use Rattle.record_flaws.specs.StrandFlaws.{has_in_phase, passes}
use Rattle.record_parts.specs.declared.strands.Mark.{Mark}

-- A map has 16 CPUs at most. This is the place of a CPU in a phase.
abbrev pub cell : ℕ → ℕ → ℕ
cell phase cpu = phase * 16 + cpu

abbrev pub cell_of : List ℕ → Entry → ℕ
cell_of cuts entry = cell (phase_of cuts entry.call) entry.cpu

-- how many of these entries each CPU has in each phase
abbrev pub AreCounts : List ℕ → ℕ → List Entry → List ℕ → Type 0
AreCounts cuts size entries counts = (length counts ≡ size) × ((k : ℕ) → slice_index_or counts k 0 ≡ count_by (λ entry. cell_of cuts entry == k) entries)

-- how many entries a strand is to have
abbrev pub entries_due : List ℕ → Strand → ℕ
entries_due counts strand = sum_by (λ cpu. slice_index_or counts (cell strand.phase cpu) 0) strand.cpus

-- whether a CPU of a strand was met before, in its phase
abbrev pub has_met : List Bool → Strand → Bool
has_met met strand = list_any (λ cpu. slice_index_or met (cell strand.phase cpu) false) strand.cpus

-- the CPUs that were met in each phase, after those of these strands
abbrev pub AreMet : ℕ → List Strand → List Bool → Type 0
AreMet size strands met = (length met ≡ size) × ((phase cpu : ℕ) → cpu < 16 → slice_index_or met (cell phase cpu) false ≡ list_any (has_in_phase phase cpu) strands)

-- among the histories that of the lock with a number stands behind those of the locks with lesser numbers
abbrev pub place_of : Shape → ℕ → ℕ
place_of shape number = length (filter (λ k. is_lock shape (lock_named shape k)) (range_with_len 0 number))

abbrev pub places_of : Shape → List ℕ
places_of shape = map (place_of shape) (range_with_len 0 (lock_count shape))

-- whether an entry is of a call of a phase, and of one of these CPUs
abbrev pub is_own : List ℕ → ℕ → List ℕ → Entry → Bool
is_own cuts phase cpus entry = (phase_of cuts entry.call == phase) && has_cpu entry.cpu cpus

-- Whether each step names an entry that passes a test, behind what a step before it named on the same lock. From which place on
-- each lock's next one is to be goes by the numbers of the locks.
abbrev pub are_named : Shape → List LockHistory → (Entry → Bool) → (ℕ → ℕ) → List StrandStep → Bool
are_named shape histories test from [] = true
are_named shape histories test from (step ∷ steps) =
    (passes test (slice_get (entries_of histories step.lock) step.index) && nat_le (from (lock_number shape step.lock)) step.index)
    && are_named shape histories test (put from (lock_number shape step.lock) (suc step.index)) steps

-- from which place on the next step of a strand is to be: behind what was marked for that strand
abbrev pub next_of : ℕ → Mark → ℕ
next_of stamp mark = if mark.stamp == stamp then suc mark.last else 0

abbrev pub nothing_marked : Mark
nothing_marked = record { stamp = 0; last = 0 }

abbrev pub froms : ℕ → List Mark → ℕ → ℕ
froms stamp marks number = next_of stamp (slice_index_or marks number nothing_marked)

-- a mark for each lock, of strands below a number
abbrev pub AreMarks : Shape → ℕ → List Mark → Type 0
AreMarks shape stamp marks = (length marks ≡ lock_count shape) × All (λ (mark : Mark). mark.stamp < stamp) marks
