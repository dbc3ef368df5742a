use Rattle.std.proofs.Common.{◌≡◌, drop}
use Rattle.place_words.specs.Bodies.{numbers}
use Rattle.trace_check.specs.Calls.{pushes_all}
use Rattle.trace_check.specs.Reading.{same_turns}
use Rattle.trace_check.proofs.looks.are_all_pushes.Given as goal

abbrev pub invariant-loop-kept : goal.invariant-loop-kept
invariant-loop-kept l =
    same_turns (pushes_all l.cpu (numbers l.taken)) l.before ≡ same_turns (pushes_all l.cpu (numbers (drop l.kept-index l.taken))) l.left
