use Rattle.std.proofs.Common.{◌<◌, length, ◌∙◌, ap, arith}
use Rattle.map_types.specs.Stored.{Stored}
use Rattle.place_table.proofs.Leaves.{spare_kept, no_spare}
use Rattle.place_table.proofs.read_slots.spares_left.Goals as goal
use Rattle.place_table.proofs.read_slots.spares_left.Goals.{in-Some+in_ok-push, in_default}

pub loop-cpu-preserved : goal.loop-cpu-preserved
loop-cpu-preserved c =
    let few = c.requires.few in
    let within : c.loop-cpu.cpu < length c.args.spares.now = omega (arith, c.type_inv.spares, c.loop-cpu-test.true) in
    elim c.match-spares-cpu.branch [
      | in-Some+in_ok-push w ↦
          ap (λ v. v.items) w.elements-is
          ∙ spare_kept c.args.spares.now c.loop-cpu.cpu c.index-spares-cpu.result w.in-Some.body c.loop-cpu.elements.items _ w.element.result within c.index-spares-cpu.is (c.index-spares-cpu.is ∙ w.in-Some.is)
          (w.element.ensures ∙ ap (λ (body : Stored). body.element) w.body.ensures) w.in_ok-push.ensures.items c.loop-cpu.invariant
      | in_default w ↦
          ap (λ v. v.items) w.elements-is
          ∙ no_spare c.args.spares.now c.loop-cpu.cpu c.index-spares-cpu.result c.loop-cpu.elements.items within c.index-spares-cpu.is (c.index-spares-cpu.is ∙ w.in_default.is) c.loop-cpu.invariant
    ]
