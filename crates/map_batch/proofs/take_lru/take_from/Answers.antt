use Rattle.std.proofs.Common.{◌∙◌, [], ap, refl, sym}
use Rattle.map_types.specs.declared.attr.Shape.{Shape}
use Rattle.place_table.specs.Passes.{TableView}
use Rattle.map_batch.proofs.LruWhole.{take_on, taken_begins, taken_more, taken_over, taken_end}
use Rattle.map_batch.proofs.take_lru.take_from.Goals as goal

pub loop-bucket-init : goal.loop-bucket-init
loop-bucket-init g c = (taken_begins c.args.map.now c.args.taking.now.out.limit c.args.from c.shape.result.now.buckets c.args.pass.now c.args.taking.now.out c.requires.begins, refl)

pub take_in-requires-clause-can : goal.take_in-requires-clause-can
take_in-requires-clause-can g c κs within = take_on c.requires.can c.loop-bucket.invariant.0.changed c.loop-bucket.invariant.0.hand

pub take_in-requires-clause-gone : goal.take_in-requires-clause-gone
take_in-requires-clause-gone g c κs within = c.loop-bucket.invariant.1 ∙ (c.requires.gone ∙ (λ i. record { bodies = []; spare = sym c.loop-bucket.invariant.0.limit_is i }))

pub returns-then-not-take_in : goal.returns-then-not-take_in
returns-then-not-take_in g c =
    taken_over c.args.from c.loop-bucket.bucket c.shape.result.now.buckets c.take_in.result (ap (λ (s : Shape). s.buckets) c.shape.ensures ∙ ap (λ (t : TableView). t.shape.buckets) c.table.ensures.value) c.if-not-take_in.true c.loop-bucket.auto.bucket c.loop-bucket-test.true c.loop-bucket.invariant.0 c.take_in.ensures.takes

pub loop-bucket-preserved : goal.loop-bucket-preserved
loop-bucket-preserved g c = (
  taken_more c.args.from c.loop-bucket.bucket c.shape.result.now.buckets c.take_in.result c.if-not-take_in.false c.loop-bucket.auto.bucket c.loop-bucket-test.true c.loop-bucket.invariant.0 c.take_in.ensures.takes,
  c.take_in.ensures.gone ∙ c.loop-bucket.invariant.1,
)

pub returns : goal.returns
returns g c = taken_end c.args.from c.loop-bucket.bucket c.shape.result.now.buckets (ap (λ (s : Shape). s.buckets) c.shape.ensures ∙ ap (λ (t : TableView). t.shape.buckets) c.table.ensures.value) c.loop-bucket-test.false c.loop-bucket.invariant.0
