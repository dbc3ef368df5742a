use Rattle.std.proofs.Common.{rules, ap}
use Rattle.place_table.proofs.Passes.{is_pass_read, saw_home}
use Rattle.place_table.proofs.table.PlaceTable.home_of.Goals as goal

pub invariant_of-pass : goal.invariant_of-pass
invariant_of-pass c = is_pass_read _ _ _ _ _ _ _ _ _ _ c.pass.invariant c.read_home.ensures.seen.after_is

pub returns : goal.returns
returns c =
    let code = c.in-Some.ensures in
    saw_home _ _ _ _ _ _ _ _ c.requires.of_table (ap (λ z. z.view) c.pass.view_is) c.read_home.ensures.seen code.0 code.1 (search rules)
