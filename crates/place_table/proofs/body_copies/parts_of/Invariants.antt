use Rattle.std.proofs.Common.{◌≡◌, take}
use Rattle.place_table.proofs.body_copies.parts_of.Given as goal

-- the parts so far
abbrev pub invariant-loop-part : goal.invariant-loop-part
invariant-loop-part l = l.values.items ≡ take l.part l.body.values
