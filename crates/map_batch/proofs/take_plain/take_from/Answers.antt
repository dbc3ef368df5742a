use Rattle.std.proofs.Common.{◌∙◌, ap}
use Rattle.map_types.specs.declared.attr.Shape.{Shape}
use Rattle.place_table.specs.Passes.{TableView}
use Rattle.map_batch.proofs.TakenOn.{taken_begins, taken_more, taken_over, taken_end}
use Rattle.map_batch.proofs.take_plain.take_from.Goals as goal

pub loop-bucket-init : goal.loop-bucket-init
loop-bucket-init g c = taken_begins c.args.map.now c.args.out.now.limit c.args.from c.shape.result.now.buckets c.args.pass.now c.args.out.now c.requires.begins

pub returns-then-not-take_in : goal.returns-then-not-take_in
returns-then-not-take_in g c =
    taken_over c.args.from c.loop-bucket.bucket c.shape.result.now.buckets c.take_in.result (ap (λ (s : Shape). s.buckets) c.shape.ensures ∙ ap (λ (t : TableView). t.shape.buckets) c.table.ensures.value) c.if-not-take_in.true c.loop-bucket.auto.bucket c.loop-bucket-test.true c.loop-bucket.invariant c.take_in.ensures

pub loop-bucket-preserved : goal.loop-bucket-preserved
loop-bucket-preserved g c =
    taken_more c.args.from c.loop-bucket.bucket c.shape.result.now.buckets c.take_in.result c.if-not-take_in.false c.loop-bucket.auto.bucket c.loop-bucket-test.true c.loop-bucket.invariant c.take_in.ensures

pub returns : goal.returns
returns g c =
    taken_end c.args.from c.loop-bucket.bucket c.shape.result.now.buckets (ap (λ (s : Shape). s.buckets) c.shape.ensures ∙ ap (λ (t : TableView). t.shape.buckets) c.table.ensures.value) c.loop-bucket-test.false c.loop-bucket.invariant
