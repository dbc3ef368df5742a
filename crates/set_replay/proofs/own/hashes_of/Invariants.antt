use Rattle.std.proofs.Common.{◌≡◌, map, take, Some}
use Rattle.lru_lists.specs.declared.bits.ProbeCall.{ProbeCall}
use Rattle.set_replay.proofs.own.hashes_of.Given as goal

abbrev pub invariant-loop-probe : goal.invariant-loop-probe
invariant-loop-probe l = l.hashes.items ≡ map (λ (probe : ProbeCall). Some probe.hash) (take l.probe-index l.probes)
