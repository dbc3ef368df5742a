use Rattle.std.proofs.Common.{◌≡◌, take}
use Rattle.record_check.proofs.chains.are_values.Given as goal

-- the parts so far are the same
abbrev pub invariant-loop-part : goal.invariant-loop-part
invariant-loop-part l = take l.part l.kept ≡ take l.part l.body.values
