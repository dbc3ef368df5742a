use Rattle.std.proofs.Common.{◌≡◌, ◌*◌, arith}
use Rattle.map_types.specs.ValueLen.{round8}
use Rattle.percpu_values.proofs.PartLemmas.{part_inside, written_fills}
use Rattle.percpu_values.proofs.FieldLemmas.{round8_above, values_laid, value_fits}
use Rattle.percpu_values.proofs.values.copy_fields.Goals as goal

pub piece-value-requires : goal.piece-value-requires
piece-value-requires c =
    let field : c.next_multiple_of-field.result ≡ round8 c.args.size = c.next_multiple_of-field.ensures.value in
    let inside = part_inside c.args.parts (round8 c.args.size) c.loop-part.part c.loop-part-test.true in
    rw field (omega (arith, round8_above c.args.size))

pub write_at-requires : goal.write_at-requires
write_at-requires c =
    let fits = value_fits c.args.parts c.args.size c.loop-part.part c.next_multiple_of-field.result c.args.fields.now c.piece-value.result.now c.next_multiple_of-field.ensures.value c.requires.exact c.loop-part-test.true c.piece-value.ensures in
    omega (arith, fits, c.loop-part.invariant.1)

pub loop-part-preserved : goal.loop-part-preserved
loop-part-preserved c =
    let fits = value_fits c.args.parts c.args.size c.loop-part.part c.next_multiple_of-field.result c.args.fields.now c.piece-value.result.now c.next_multiple_of-field.ensures.value c.requires.exact c.loop-part-test.true c.piece-value.ensures in (
      values_laid c.args.parts c.args.size c.loop-part.part c.next_multiple_of-field.result c.args.fields.now c.args.bytes.now c.loop-part.bytes c.write_at.new.self c.piece-value.result.now c.next_multiple_of-field.ensures.value c.requires.filled c.requires.exact c.loop-part-test.true c.loop-part.invariant.0 c.piece-value.ensures c.write_at.ensures,
      written_fills (c.args.parts * c.args.size) (c.loop-part.part * c.args.size) c.loop-part.bytes c.write_at.new.self c.piece-value.result.now c.loop-part.invariant.1 fits c.write_at.ensures,
    )
