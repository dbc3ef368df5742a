use Rattle.percpu_values.proofs.FieldLemmas.{parts_laid}
use Rattle.percpu_values.proofs.values.copy_parts.Goals as goal

pub loop-part-preserved : goal.loop-part-preserved
loop-part-preserved c =
    parts_laid c.args.parts c.args.size c.loop-part.part c.next_multiple_of-field.result c.args.bytes.now c.args.out.now c.loop-part.out c.copy_to_field.new.bytes c.piece-value.result.now c.next_multiple_of-field.ensures.value c.requires.filled c.requires.exact c.loop-part-test.true c.loop-part.invariant c.piece-value.ensures c.copy_to_field.ensures
