use Rattle.std.proofs.Common.{◌≡◌}
use Rattle.place_table.specs.Views.{numbers_below}
use Rattle.place_table.specs.Passes.{flags_of}
use Rattle.place_table.proofs.cpus.first_cpus.Given as goal

abbrev pub invariant-loop-cpu : goal.invariant-loop-cpu
invariant-loop-cpu l = l.cpus ≡ flags_of (numbers_below l.cpu)
