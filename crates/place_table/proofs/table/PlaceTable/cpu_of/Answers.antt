use Rattle.std.proofs.Common.{◌≡◌, ◌<◌, true, ap, sym, subst, ◌∙◌}
use Rattle.map_types.specs.declared.attr.Shape.{Shape}
use Rattle.place_table.specs.Passes.{PassView}
use Rattle.place_table.specs.Views.{is_in_hand_of}
use Rattle.place_table.proofs.table.PlaceTable.cpu_of.Goals as goal

pub returns-clause-real : goal.returns-clause-real
returns-clause-real c e in_hand =
    let here = subst (λ (p : PassView). is_in_hand_of e p.cpu p.view.hand ≡ true) (sym c.pass.view_is) in_hand in
    subst (λ (s : Shape). e < s.elements) (ap (λ (p : PassView). p.view.shape) c.pass.view_is ∙ c.requires.table.1) (c.pass.invariant.hands_real _ _ here).0
