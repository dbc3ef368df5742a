-- A race, phase by phase: what stands at each phase's start is read, and its calls are run, by one pass that has all CPUs where one CPU
-- makes them all, else by workers, one for each CPU.
use Rattle.std.specs.Prelude.{◌≡◌, IsTrue, IsFalse, ℕ, zero, suc, ◌-◌, List, [], ◌∷◌, ◌++◌, MatchOption, Option, None, Some, length, map}
use Rattle.std.specs.List.{flat_map, range_with_len}
use Rattle.map_types.specs.declared.call.Call.{Call}
use Rattle.map_types.specs.declared.reply.Reply.{Reply}
use Rattle.map_types.specs.Kind.{is_lru}
use Rattle.map_script.specs.declared.script.Script.{Script}
use Rattle.place_words.specs.declared.history.Strand.{Strand}
use Rattle.place_words.specs.AtRest.{IsStart}
use Rattle.place_words.specs.Named.{entries_of}
use Rattle.place_words.specs.Phases.{phase_count, calls_before, of_phase}
use Rattle.owner_words.specs.Owners.{OwnersTold}
use Rattle.place_table.specs.Passes.{PassView, TableView, IsFirstPass}
use Rattle.turn_order.specs.Nests.{NestsApart}
use Rattle.map_report.specs.declared.record.PhaseStart.{PhaseStart}
use Rattle.map_report.specs.declared.record.RunRecord.{RunRecord}
use Rattle.map_report.specs.Phases.{HasExactPhases}
use Rattle.map_report.specs.Record.{IsRecord, StartsRise}
use Rattle.run_records.specs.declared.pieces.Piece.{Piece}
use Rattle.run_records.specs.ByLogs.{RunStart, HaveRunFrom}
use Rattle.run_records.specs.Parts.{lone_cpu, pieces_by}
use Rattle.run_records.specs.Phased.{IsWhole, Started}
use Rattle.run_records.specs.Work.{HasWorked, HaveRaced}

-- how many calls stand before a phase of a script, and its calls
abbrev pub first_of : Script → ℕ → ℕ
first_of script p = calls_before script.cuts (length script.calls) p

abbrev pub calls_of : Script → ℕ → List Call
calls_of script p = of_phase script.cuts p script.calls

-- Calls of one CPU, in a phase, of which so many stand before, run by a pass that has all CPUs: what they do is determined by the state
-- at their start.
pub record RanByOne (t : TableView) (p before : ℕ) (calls : List Call) (cpu : ℕ) (start now : PassView) (told : List Reply) (pieces : List Piece) : Type 0 where
  pub whole : IsWhole t now
  pub worked : HasWorked t cpu (suc before) calls start now told
  pub exact : (from : RunStart) → from.number ≡ suc before → IsStart t.shape from.state → HaveRunFrom t from [] start [] → HaveRunFrom t from calls now told
  pub pieces_are : pieces ≡ (record { phase = p; cpu = None; count = length now.view.kept - length start.view.kept }) ∷ []

-- calls of several, run by workers
pub record RanByMany (t : TableView) (p before : ℕ) (calls : List Call) (start now : PassView) (told : List Reply) (pieces : List Piece) : Type 0 where
  pub counts : List ℕ
  pub raced : HaveRaced t (suc before) calls start now told counts
  pub pieces_are : pieces ≡ pieces_by p 0 counts

abbrev pub RanCalls : TableView → ℕ → ℕ → List Call → PassView → PassView → List Reply → List Piece → Type 0
RanCalls t p before calls start now told pieces =
    MatchOption (lone_cpu calls) (RanByMany t p before calls start now told pieces) (λ cpu. RanByOne t p before calls cpu start now told pieces)

-- the calls of a phase of a script
abbrev pub RanAlone : TableView → Script → ℕ → ℕ → PassView → PassView → List Reply → List Piece → Type 0
RanAlone t script p cpu start now told pieces = RanByOne t p (first_of script p) (calls_of script p) cpu start now told pieces

abbrev pub RanAtOnce : TableView → Script → ℕ → PassView → PassView → List Reply → List Piece → Type 0
RanAtOnce t script p start now told pieces = RanByMany t p (first_of script p) (calls_of script p) start now told pieces

abbrev pub RanPhase : TableView → Script → ℕ → PassView → PassView → List Reply → List Piece → Type 0
RanPhase t script p start now told pieces = RanCalls t p (first_of script p) (calls_of script p) start now told pieces

-- The phases before one were run, from the table's opening on, with these replies, starts and pieces.
abbrev pub HaveComeTo : TableView → Script → ℕ → PassView → List Reply → List PhaseStart → List Piece → Type 0
HaveComeTo t script zero now replies starts pieces = IsFirstPass t now × (replies ≡ []) × (starts ≡ []) × (pieces ≡ [])
HaveComeTo t script (suc p) now replies starts pieces =
    (before : PassView) × (begun : PassView) × (earlier : List Reply) × (told : List Reply) × (others : List PhaseStart) × (start : PhaseStart) × (done : List Piece) × (more : List Piece)
    × HaveComeTo t script p before earlier others done × Started t before begun start × RanPhase t script p begun now told more
    × (replies ≡ earlier ++ told) × (starts ≡ others ++ start ∷ []) × (pieces ≡ done ++ more)

-- the phase and the CPUs of each strand of a phase
abbrev pub strands_by : ℕ → ℕ → Option ℕ → List (ℕ × List ℕ)
strands_by cpus p None = map (λ cpu. (p, cpu ∷ [])) (range_with_len 0 cpus)
strands_by cpus p (Some cpu) = (p, range_with_len 0 cpus) ∷ []

abbrev pub strands_in : Script → ℕ → List (ℕ × List ℕ)
strands_in script p = strands_by script.shape.cpus p (lone_cpu (calls_of script p))

-- What is kept of a race is a record of the script. In each phase whose calls are all of one CPU, or that has none, all CPUs are in one
-- strand; in each other each CPU has its own, in the order of the CPUs. The tickets of the starts of phases never fall, and none is above
-- the number of turns. And in each phase whose calls are all of one CPU, or that has
-- none, what happens is determined by the state at its start, and no reply is ENOMEM. The turns that stand before one in the
-- history of its lock have lower tickets than those that were made inside it. On a map that evicts the turns tell the owners of elements
-- in the order of their tickets.
pub record IsRaceRecord (script : Script) (kept : RunRecord) : Type 0 where
  pub is_record : IsRecord script kept
  pub starts_rise : StartsRise kept
  pub strand_each : map (λ (strand : Strand). (strand.phase, strand.cpus)) kept.strands ≡ flat_map (strands_in script) (range_with_len 0 (phase_count script.cuts))
  pub exact : HasExactPhases script kept is_record.spares
  pub nests : NestsApart kept.histories
  pub owners : IsTrue (is_lru script.shape.kind) → OwnersTold script.shape (entries_of kept.histories)
