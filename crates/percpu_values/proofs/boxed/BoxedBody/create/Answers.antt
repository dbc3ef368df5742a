use Rattle.std.proofs.Common.{◌≡◌, ap, subst, sym, ◌∙◌}
use Rattle.map_types.specs.Stored.{Stored, zero_stored, HasSizes}
use Rattle.percpu_values.specs.Cells.{body_in}
use Rattle.percpu_values.proofs.CellLemmas.{body_made}
use Rattle.percpu_values.proofs.SizeLemmas.{zero_stored_sized}
use Rattle.percpu_values.proofs.boxed.BoxedBody.create.Goals as goal

pub returns-clause-sized : goal.returns-clause-sized
returns-clause-sized c =
    let is : body_in c.in_ok-cell.cell.value ≡ zero_stored c.args.element c.args.key_size c.args.parts c.args.size = ap body_in c.in_ok-cell.ensures.ok ∙ body_made _ ∙ c.in_ok-body.ensures in
    let sized = λ (stored : Stored). HasSizes c.args.key_size c.args.parts c.args.size stored in
    subst sized (sym is) (zero_stored_sized c.args.element c.args.key_size c.args.parts c.args.size)
