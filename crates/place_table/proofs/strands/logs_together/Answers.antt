use Rattle.std.proofs.Common.{Bool, cond, ◌++◌, ap, ◌∙◌}
use Rattle.std.specs.Prelude.{not}
use Rattle.place_table.proofs.LogsTell.{both_logs}
use Rattle.place_table.proofs.strands.logs_together.Goals as goal

pub returns : goal.returns
returns c = λ shape first second have more.
    let ours = c.in_ok-ours.ours.items in
    let both = ours ++ c.in_ok-theirs.theirs.items in
    both_logs shape first second c.args.ours c.args.theirs c.in_ok-ours.ours c.in_ok-theirs.theirs c.append.new.self.items c.in_ok-ours.was c.in_ok-theirs.was
    (c.append.ensures.items ∙ ap (λ (fits : Bool). cond fits both ours) (c.is_err.ensures.negation ∙ ap not c.if-is_err.false)) have more
