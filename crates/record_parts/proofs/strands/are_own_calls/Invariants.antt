use Rattle.std.specs.Prelude.{◌≡◌, true, take}
use Rattle.std.specs.List.{list_all}
use Rattle.record_flaws.specs.StrandFlaws.{is_own_call}
use Rattle.record_parts.proofs.strands.are_own_calls.Given as goal

abbrev pub invariant-loop-index : goal.invariant-loop-index
invariant-loop-index l = list_all (is_own_call l.script l.kept l.strand) (take l.index l.strand.steps) ≡ true
