-- Which strands of a record are right.
use Rattle.std.specs.Prelude.{◌≡◌, ℕ, ◌-◌, ◌<◌, ◌==◌, ◌&&◌, Bool, false, IsTrue, List, MatchOption, Option, None, Some, filter, length, option_map, slice_get, unwrap_or}
use Rattle.std.specs.List.{list_all, list_any, range_with_len}
use Rattle.map_types.specs.declared.call.Call.{Call}
use Rattle.map_types.specs.declared.kind.DomainId.{DomainId}
use Rattle.map_script.specs.declared.script.Script.{Script}
use Rattle.place_words.specs.declared.history.Entry.{Entry}
use Rattle.place_words.specs.declared.history.Strand.{Strand}
use Rattle.place_words.specs.declared.history.StrandStep.{StrandStep}
use Rattle.place_words.specs.Locks.{is_lock}
use Rattle.place_words.specs.Phases.{phase_count}
use Rattle.place_words.specs.Strands.{places_on}
use Rattle.map_report.specs.declared.record.RunRecord.{RunRecord}
use Rattle.map_report.specs.Record.{entries_of, has_cpu, places_in}

-- whether a strand is of a phase, and a CPU stands in it
abbrev pub has_in_phase : ℕ → ℕ → Strand → Bool
has_in_phase phase cpu strand = (strand.phase == phase) && has_cpu cpu strand.cpus

-- No CPU of a strand stands in a strand before it that is of the same phase. Its steps on a lock are the entries that its CPUs
-- have in that lock's history for calls of its phase, each once and in order.
pub record HasOwnSteps (script : Script) (kept : RunRecord) (place : ℕ) (strand : Strand) : Type 0 where
  pub apart : (earlier : ℕ) (other : Strand) → earlier < place → slice_get kept.strands earlier ≡ Some other
      → (cpu : ℕ) → IsTrue (has_cpu cpu strand.cpus) → IsTrue (has_in_phase strand.phase cpu other) → ⊥
  pub steps : (lock : DomainId) → IsTrue (is_lock script.shape lock)
      → places_on lock strand.steps ≡ places_in script.cuts strand.phase strand.cpus 0 (entries_of kept.histories lock)

-- whether there is an entry that passes a test
abbrev pub passes : (Entry → Bool) → Option Entry → Bool
passes test None = false
passes test (Some entry) = test entry

-- Whether an entry is of a call of one of these CPUs. Entries name calls by their numbers, which begin with 1.
abbrev pub is_call_of : List Call → List ℕ → Entry → Bool
is_call_of calls cpus entry = unwrap_or (option_map (λ (call : Call). has_cpu call.cpu cpus) (slice_get calls (entry.call - 1))) false

abbrev pub is_own_call : Script → RunRecord → Strand → StrandStep → Bool
is_own_call script kept strand step = passes (is_call_of script.calls strand.cpus) (slice_get (entries_of kept.histories step.lock) step.index)

-- A strand has the steps of its CPUs, and each is of a call of one of them.
pub record IsRightStrand (script : Script) (kept : RunRecord) (place : ℕ) (strand : Strand) : Type 0 where
  pub own_steps : HasOwnSteps script kept place strand
  pub own_calls : IsTrue (list_all (is_own_call script kept strand) strand.steps)

-- in each phase each CPU stands in a strand
abbrev pub EachStands : Script → RunRecord → Type 0
EachStands script kept = (phase cpu : ℕ) → phase < phase_count script.cuts → cpu < script.shape.cpus → IsTrue (list_any (has_in_phase phase cpu) kept.strands)

-- The strand at a place is right. At the place behind the last strand nothing is missing.
pub record IsRightPlace (script : Script) (kept : RunRecord) (place : ℕ) : Type 0 where
  pub strand : (strand : Strand) → slice_get kept.strands place ≡ Some strand → IsRightStrand script kept place strand
  pub each : place ≡ length kept.strands → EachStands script kept

-- What a record says of its strands and their steps.
pub record AreStrandsRight (script : Script) (kept : RunRecord) : Type 0 where
  pub strand_of : ℕ → ℕ → ℕ
  pub in_strand : (p cpu : ℕ) → p < phase_count script.cuts → cpu < script.shape.cpus → MatchOption (slice_get kept.strands (strand_of p cpu)) ⊥ (λ (strand : Strand). strand.phase ≡ p)
  pub cpus_are : (n : ℕ) (strand : Strand) → slice_get kept.strands n ≡ Some strand
      → (strand.phase < phase_count script.cuts) × (strand.cpus ≡ filter (λ cpu. strand_of strand.phase cpu == n) (range_with_len 0 script.shape.cpus))
  pub steps : (n : ℕ) (strand : Strand) → slice_get kept.strands n ≡ Some strand → (lock : DomainId) → IsTrue (is_lock script.shape lock)
      → places_on lock strand.steps ≡ places_in script.cuts strand.phase strand.cpus 0 (entries_of kept.histories lock)
  pub own_calls : (n : ℕ) (strand : Strand) → slice_get kept.strands n ≡ Some strand → IsTrue (list_all (is_own_call script kept strand) strand.steps)
