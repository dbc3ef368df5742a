use Rattle.std.proofs.Common.{◌≡◌, drop}
use Rattle.place_words.specs.PlainTraces.{found_empty}
use Rattle.place_words.specs.Turns.{ring}
use Rattle.trace_check.specs.Reading.{same_turns}
use Rattle.trace_check.proofs.looks.are_empty.Given as goal

abbrev pub invariant-loop-place : goal.invariant-loop-place
invariant-loop-place l =
    same_turns (found_empty (ring l.cpu l.cpus)) l.before ≡ same_turns (found_empty (drop l.place (ring l.cpu l.cpus))) l.left
