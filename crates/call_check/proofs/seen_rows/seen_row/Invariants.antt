use Rattle.std.specs.Prelude.{◌≡◌, take}
use Rattle.place_words.specs.StrandSteps.{row_read}
use Rattle.evicting_traces.specs.Reading.{all_seen}
use Rattle.call_check.specs.RightCalls.{turns_named}
use Rattle.call_check.proofs.seen_rows.seen_row.Given as goal

abbrev pub invariant-loop-place : goal.invariant-loop-place
invariant-loop-place l = l.seens.items ≡ all_seen l.shape (turns_named l.histories.all (take l.place (row_read l.row)))
