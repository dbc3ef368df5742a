use Rattle.std.proofs.Common.{◌≡◌, true, subst, sym, ap, ◌∙◌}
use Rattle.map_types.specs.declared.attr.Shape.{Shape}
use Rattle.place_table.specs.Passes.{TableView, PassView}
use Rattle.place_table.specs.Plays.{MayClear}
use Rattle.place_table.specs.Views.{is_among}
use Rattle.place_table.proofs.Passes.{is_pass_noted}
use Rattle.place_table.proofs.table.PlaceTable.clear.Goals as goal

pub clear_bit-requires-clause-hand : goal.clear_bit-requires-clause-hand
clear_bit-requires-clause-hand c =
    let shape_is : c.args.self.now.shape ≡ c.self.inside.table.shared.key = sym (c.self.invariant.0 ∙ ap (λ (t : TableView). t.shape) c.self.view_is) in
    subst (λ (z : Shape × PassView). (is_among z.1.cpu z.1.view.cpus ≡ true) × MayClear z.0 z.1.view z.1.cpu c.args.element) (λ i. (shape_is i, sym c.pass.view_is i)) (c.requires.begun, c.requires.allowed)

pub invariant_of-pass : goal.invariant_of-pass
invariant_of-pass c = is_pass_noted _ _ _ _ _ _ _ _ _ c.pass.invariant c.clear_bit.ensures.cleared.after_is
