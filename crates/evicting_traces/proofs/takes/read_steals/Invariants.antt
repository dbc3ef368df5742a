use Rattle.std.proofs.Common.{◌≡◌, drop}
use Rattle.place_words.specs.Turns.{ring}
use Rattle.evicting_traces.specs.Calls.{read_steals}
use Rattle.evicting_traces.proofs.takes.read_steals.Given as goal

abbrev pub invariant-loop-place : goal.invariant-loop-place
invariant-loop-place l =
    read_steals l.shape l.cpu l.hash (ring l.start l.shape.cpus) l.seens ≡ read_steals l.shape l.cpu l.hash (drop l.place (ring l.start l.shape.cpus)) l.left
