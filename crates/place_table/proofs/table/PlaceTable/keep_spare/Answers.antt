use Rattle.std.proofs.Common.{ap, sym, subst, ◌∙◌}
use Rattle.map_types.specs.declared.attr.Shape.{Shape}
use Rattle.map_types.specs.Creation.{IsShape}
use Rattle.map_types.specs.Stored.{IsSized}
use Rattle.place_table.specs.Passes.{PassView, TableView}
use Rattle.place_table.proofs.Passes.{cpu_is_few, is_pass_spared}
use Rattle.place_table.proofs.table.PlaceTable.keep_spare.Goals as goal

pub put_into-requires : goal.put_into-requires
put_into-requires c =
    let is : IsShape c.args.self.now.shape = subst IsShape (ap (λ (t : TableView). t.shape) c.self.view_is) c.self.invariant.2 in
    cpu_is_few c.args.self.now c.args.pass.now _ _ is c.requires.of_table c.requires.begun (ap (λ (z : PassView). z.cpu) c.pass.view_is) (ap (λ (z : PassView). z.view) c.pass.view_is) c.pass.invariant.within

pub invariant_of-pass : goal.invariant_of-pass
invariant_of-pass c =
    is_pass_spared _ _ _ c.pass.inside.cpu c.pass.inside.spares c.put_into.new.spares _ c.pass.invariant c.put_into.ensures.here (subst (λ (s : Shape). IsSized s c.args.body) (sym (ap (λ (z : PassView). z.view.shape) c.pass.view_is ∙ c.requires.of_table.1)) c.requires.sized) c.put_into.ensures.others
