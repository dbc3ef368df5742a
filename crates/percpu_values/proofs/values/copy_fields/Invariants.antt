use Rattle.std.proofs.Common.{◌≡◌, ◌*◌, ◌++◌, length, drop}
use Rattle.std.specs.List.{concat}
use Rattle.map_types.specs.Parts.{values_in}
use Rattle.percpu_values.proofs.values.copy_fields.Given as goal

abbrev pub invariant-loop-part : goal.invariant-loop-part
invariant-loop-part l =
    (l.bytes ≡ concat (values_in l.part l.size l.fields) ++ drop (l.part * l.size) l.initial.bytes)
    × (length l.bytes ≡ l.parts * l.size)
