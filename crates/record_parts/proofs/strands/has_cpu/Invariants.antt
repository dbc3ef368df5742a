use Rattle.std.specs.Prelude.{◌≡◌, ◌==◌, false, take}
use Rattle.std.specs.List.{list_any}
use Rattle.record_parts.proofs.strands.has_cpu.Given as goal

abbrev pub invariant-loop-other : goal.invariant-loop-other
invariant-loop-other l = list_any (λ c. c == l.cpu) (take l.other-index l.cpus) ≡ false
