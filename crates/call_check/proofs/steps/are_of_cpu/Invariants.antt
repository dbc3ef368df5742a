use Rattle.std.specs.Prelude.{◌≡◌, true, take}
use Rattle.std.specs.List.{list_all}
use Rattle.place_words.specs.StrandSteps.{row_read}
use Rattle.call_check.specs.RightCalls.{is_of_cpu}
use Rattle.call_check.proofs.steps.are_of_cpu.Given as goal

abbrev pub invariant-loop-place : goal.invariant-loop-place
invariant-loop-place l = list_all (is_of_cpu l.histories.all l.cpu) (take l.place (row_read l.steps)) ≡ true
