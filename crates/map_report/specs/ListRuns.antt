-- The record of a run in serial order of a map that doesn't evict, on plain lists: the replies, what happened under each lock and
-- in which order, phase after phase, and what the map holds at the end.
use Rattle.std.specs.Prelude.{ℕ, suc, List, [], length, map, take}
use Rattle.std.specs.List.{range_with_len}
use Rattle.map_script.specs.declared.script.Script.{Script}
use Rattle.place_words.specs.declared.finals.Finals.{Finals}
use Rattle.place_words.specs.Phases.{phase_count, calls_before, of_phase}
use Rattle.map_report.specs.declared.record.RunRecord.{RunRecord}
use Rattle.map_report.specs.Serial.{opening, replies_from, lists_after}
use Rattle.map_report.specs.Turns.{Happened, turns_from, histories_of_turns, strand_of_turns}

-- all turns of a script's calls, which are numbered from 1
abbrev pub turns_of_script : Script → List Happened
turns_of_script script = turns_from script.shape (opening script.shape) 0 1 script.calls

-- the lists at the start of a phase, the turns before it, and its own
abbrev pub lists_at : Script → ℕ → Finals
lists_at script p = lists_after script.shape (opening script.shape) (take (calls_before script.cuts (length script.calls) p) script.calls)

abbrev pub turns_before : Script → ℕ → List Happened
turns_before script p = turns_from script.shape (opening script.shape) 0 1 (take (calls_before script.cuts (length script.calls) p) script.calls)

abbrev pub turns_in : Script → ℕ → List Happened
turns_in script p =
    turns_from script.shape (lists_at script p) (length (turns_before script p)) (suc (calls_before script.cuts (length script.calls) p)) (of_phase script.cuts p script.calls)

unfoldable pub serial_on_lists : Script → RunRecord
serial_on_lists script = record {
  replies = replies_from script.shape (opening script.shape) script.calls;
  histories = histories_of_turns script.shape (turns_of_script script);
  strands = map (λ p. strand_of_turns script.shape p (turns_before script p) (turns_in script p)) (range_with_len 0 (phase_count script.cuts));
  finals = lists_after script.shape (opening script.shape) script.calls;
  phases = map (λ p. record { ticket = length (turns_before script p); marked = [] }) (range_with_len 0 (phase_count script.cuts));
}
