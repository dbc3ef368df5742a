use Rattle.std.proofs.Common.{rules, sym, ap}
use Rattle.place_table.proofs.Passes.{is_pass_noted, read_has_code, saw_owner}
use Rattle.place_table.proofs.table.PlaceTable.owner_of.Goals as goal

pub unreachable-requires : goal.unreachable-requires
unreachable-requires c =
    let sees = c.read_owner.ensures.seen in
    c.in-None.ensures sees.owner (read_has_code c.args.self.now _ c.args.pass.now _ _ _ (search rules) c.requires.of_table (ap (λ z. z.view) c.pass.view_is) sees) (sym sees.found_is)

pub invariant_of-pass : goal.invariant_of-pass
invariant_of-pass c = is_pass_noted _ _ _ _ _ _ _ _ _ c.pass.invariant c.read_owner.ensures.seen.after_is

pub returns : goal.returns
returns c =
    let code = c.in-Some.ensures in
    saw_owner _ _ _ _ _ _ _ _ (search rules) c.requires.of_table (ap (λ z. z.view) c.pass.view_is) c.read_owner.ensures.seen code.0 code.1 (search rules)
