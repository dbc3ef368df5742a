use Rattle.std.proofs.Common.{refl, ap, ◌∙◌}
use Rattle.map_types.specs.declared.attr.Shape.{Shape}
use Rattle.bucket_walks.proofs.Past.{past_begins, past_more, past_found, past_all}
use Rattle.bucket_walks.proofs.next.first_from.Goals as goal

pub loop-bucket-init : goal.loop-bucket-init
loop-bucket-init g c = (past_begins c.args.table.now c.args.from c.shape.result.now.buckets c.args.pass.now, refl)

pub returns-then-first_in-clause-walks : goal.returns-then-first_in-clause-walks
returns-then-first_in-clause-walks g c =
    past_found c.args.from c.loop-bucket.bucket c.shape.result.now.buckets c.first_in.result c.first_in.new.out (ap (λ (s : Shape). s.buckets) c.shape.ensures) c.if-first_in.true c.loop-bucket.auto.bucket c.loop-bucket-test.true c.loop-bucket.invariant.0 c.first_in.ensures.looks

pub loop-bucket-preserved : goal.loop-bucket-preserved
loop-bucket-preserved g c = (
  past_more c.args.from c.loop-bucket.bucket c.shape.result.now.buckets c.first_in.result c.first_in.new.out c.if-first_in.false c.loop-bucket.auto.bucket c.loop-bucket-test.true c.loop-bucket.invariant.0 c.first_in.ensures.looks,
  c.first_in.ensures.stays c.if-first_in.false ∙ c.loop-bucket.invariant.1,
)

pub returns-clause-walks : goal.returns-clause-walks
returns-clause-walks g c =
    past_all c.args.from c.loop-bucket.bucket c.shape.result.now.buckets (ap (λ (s : Shape). s.buckets) c.shape.ensures) c.loop-bucket-test.false c.loop-bucket.invariant.0
