use Rattle.std.proofs.Common.{ap}
use Rattle.map_types.specs.declared.attr.Shape.{Shape}
use Rattle.bucket_walks.proofs.Wholes.{read_begins, read_more, read_over, read_end}
use Rattle.bucket_walks.proofs.read.read_from.Goals as goal

pub loop-bucket-init : goal.loop-bucket-init
loop-bucket-init g c = read_begins c.args.table.now c.args.out.now.limit c.args.from c.shape.result.now.buckets c.args.pass.now c.args.out.now c.requires.begins

pub returns-then-not-read_in : goal.returns-then-not-read_in
returns-then-not-read_in g c =
    read_over c.args.from c.loop-bucket.bucket c.shape.result.now.buckets c.read_in.result (ap (λ (s : Shape). s.buckets) c.shape.ensures) c.if-not-read_in.true c.loop-bucket.auto.bucket c.loop-bucket-test.true c.loop-bucket.invariant c.read_in.ensures

pub loop-bucket-preserved : goal.loop-bucket-preserved
loop-bucket-preserved g c =
    read_more c.args.from c.loop-bucket.bucket c.shape.result.now.buckets c.read_in.result c.if-not-read_in.false c.loop-bucket.auto.bucket c.loop-bucket-test.true c.loop-bucket.invariant c.read_in.ensures

pub returns : goal.returns
returns g c = read_end c.args.from c.loop-bucket.bucket c.shape.result.now.buckets (ap (λ (s : Shape). s.buckets) c.shape.ensures) c.loop-bucket-test.false c.loop-bucket.invariant
