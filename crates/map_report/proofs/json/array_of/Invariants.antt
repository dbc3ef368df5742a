use Rattle.std.proofs.Common.{◌≡◌, map}
use Rattle.serde_json.specs.declared.value.Value.{String}
use Rattle.map_report.proofs.json.array_of.Given as goal

-- the values so far are those of the lines so far
abbrev pub invariant-loop-line : goal.invariant-loop-line
invariant-loop-line l = l.values.items ≡ map String l.yielded
