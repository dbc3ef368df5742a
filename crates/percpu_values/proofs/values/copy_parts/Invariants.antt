use Rattle.std.proofs.Common.{◌≡◌, ◌*◌, ◌++◌, drop}
use Rattle.map_types.specs.ValueLen.{round8}
use Rattle.map_types.specs.Parts.{fields_of}
use Rattle.percpu_values.specs.Layout.{parts_of}
use Rattle.percpu_values.proofs.values.copy_parts.Given as goal

abbrev pub invariant-loop-part : goal.invariant-loop-part
invariant-loop-part l =
    l.out ≡ fields_of (parts_of l.part l.size l.bytes) ++ drop (l.part * round8 l.size) l.initial.out
