use Rattle.std.proofs.Common.{◌≡◌, drop}
use Rattle.place_words.specs.Turns.{ring}
use Rattle.trace_check.specs.Reading.{are_pops}
use Rattle.trace_check.proofs.looks.are_pops.Given as goal

abbrev pub invariant-loop-place : goal.invariant-loop-place
invariant-loop-place l =
    are_pops (ring l.cpu l.cpus) l.element l.before ≡ are_pops (drop l.place (ring l.cpu l.cpus)) l.element l.left
