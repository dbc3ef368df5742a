-- The record of a run of a map of any kind in serial order, by the logs of its locks: the replies, one history for each lock, for
-- each phase its start and one strand of all CPUs, and what the map holds at the end.
use Rattle.std.specs.Prelude.{ℕ, suc, List, [], ◌∷◌, ◌++◌, length, map, filter, take}
use Rattle.std.specs.List.{range_with_len}
use Rattle.map_types.specs.declared.attr.Shape.{Shape}
use Rattle.map_types.specs.declared.call.Call.{Call}
use Rattle.map_script.specs.declared.script.Script.{Script}
use Rattle.place_words.specs.declared.history.Strand.{Strand}
use Rattle.place_words.specs.declared.history.StrandStep.{StrandStep}
use Rattle.place_words.specs.Logs.{State, turned, does, after_one, new_state, run, answers, finals_of}
use Rattle.place_words.specs.Phases.{phase_count, calls_before, of_phase}
use Rattle.place_words.specs.Turns.{Turn}
use Rattle.map_report.specs.declared.record.PhaseStart.{PhaseStart}
use Rattle.map_report.specs.declared.record.RunRecord.{RunRecord}
use Rattle.map_report.specs.Record.{locks_of}

-- each turn is a step, which names the place at the end of its lock's log
abbrev pub steps_of_turns : Shape → ℕ → ℕ → List Turn → State → List StrandStep
steps_of_turns shape cpu number [] state = []
steps_of_turns shape cpu number (turn ∷ turns) state =
    (record { lock = turn.lock; index = length (state.logs turn.lock) }) ∷ steps_of_turns shape cpu number turns (turned shape cpu number turn state)

abbrev pub steps_of_calls : Shape → ℕ → List Call → State → List StrandStep
steps_of_calls shape number [] state = []
steps_of_calls shape number (call ∷ calls) state =
    steps_of_turns shape call.cpu number (does shape call.cpu number state call.verb).turns state ++ steps_of_calls shape (suc number) calls (after_one shape number call state)

-- the map at the start of a phase: the calls of the phases before it were run, which are numbered from 1
abbrev pub state_before : Script → ℕ → State
state_before script p =
    run script.shape 1 (take (calls_before script.cuts (length script.calls) p) script.calls) (new_state script.shape)

abbrev pub start_of : Shape → State → PhaseStart
start_of shape state = record { ticket = state.next_ticket; marked = filter state.bits (range_with_len 0 shape.elements) }

-- the calls of a phase, from the state at its start on
abbrev pub strand_of_phase : Script → ℕ → Strand
strand_of_phase script p = record {
  phase = p;
  cpus = range_with_len 0 script.shape.cpus;
  steps = steps_of_calls script.shape (suc (calls_before script.cuts (length script.calls) p)) (of_phase script.cuts p script.calls) (state_before script p);
}

unfoldable pub serial : Script → RunRecord
serial script =
    let shape : Shape = script.shape in
    let state : State = run shape 1 script.calls (new_state shape) in
    record {
      replies = answers shape 1 script.calls (new_state shape);
      histories = map (λ lock. record { lock = lock; entries = state.logs lock }) (locks_of shape);
      strands = map (strand_of_phase script) (range_with_len 0 (phase_count script.cuts));
      finals = finals_of shape state;
      phases = map (λ p. start_of shape (state_before script p)) (range_with_len 0 (phase_count script.cuts));
    }
