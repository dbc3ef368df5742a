use Rattle.std.proofs.Common.{◌∙◌, ℕ, ap, subst}
use Rattle.map_types.specs.Stored.{Stored}
use Rattle.place_table.specs.Passes.{Detached}
use Rattle.map_batch.proofs.take_plain.push_out.Goals as goal

pub push-requires-after_bounds : goal.push-requires-after_bounds
push-requires-after_bounds g c κs within =
    c.requires.push c.detach.new.pass
    (subst (λ (e : ℕ). Detached c.args.bucket e c.args.pass.now c.detach.new.pass) (c.element-element.ensures ∙ ap (λ (b : Stored). b.element) c.body.ensures) c.detach.ensures)
