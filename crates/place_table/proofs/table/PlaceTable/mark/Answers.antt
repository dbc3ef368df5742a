use Rattle.place_table.proofs.Passes.{is_pass_noted}
use Rattle.place_table.proofs.table.PlaceTable.mark.Goals as goal

pub invariant_of-pass : goal.invariant_of-pass
invariant_of-pass c = is_pass_noted _ _ _ _ _ _ _ _ _ c.pass.invariant c.set_bit.ensures.marked.1
