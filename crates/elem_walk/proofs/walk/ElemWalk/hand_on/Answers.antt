use Rattle.std.proofs.Common.{ap, ◌∙◌}
use Rattle.map_types.specs.declared.attr.Shape.{Shape}
use Rattle.map_types.specs.declared.kind.Side.TheVariants.{Prog}
use Rattle.elem_walk.specs.Walks.{Answers}
use Rattle.elem_walk.proofs.Stops.{sizes_kept}
use Rattle.elem_walk.proofs.HandedOver.{hand_begins, hand_more, hand_over, hand_stopped, hand_end}
use Rattle.elem_walk.proofs.walk.ElemWalk.hand_on.Goals as goal

pub loop-bucket-init : goal.loop-bucket-init
loop-bucket-init g c = (hand_begins c.args.table.now (Answers g.F.Fn c.args.self.now.call) c.args.shape.now.buckets c.args.pass.now c.args.over.now c.requires.none (c.requires.limit ∙ ap (λ (s : Shape). s.elements) c.requires.shape), c.requires.of_map)

pub hand_in-requires-clause-of_map : goal.hand_in-requires-clause-of_map
hand_in-requires-clause-of_map g c κs within = c.loop-bucket.invariant.1

pub loop-bucket-preserved : goal.loop-bucket-preserved
loop-bucket-preserved g c = (
  hand_more c.loop-bucket.bucket c.args.shape.now.buckets c.hand_in.result c.in-Not.is c.loop-bucket-test.true c.loop-bucket.invariant.0 c.hand_in.ensures,
  sizes_kept c.args.shape.now Prog c.loop-bucket.invariant.1 c.hand_in.ensures,
)

pub returns-in-Here : goal.returns-in-Here
returns-in-Here g c = hand_over c.loop-bucket.bucket c.args.shape.now.buckets c.hand_in.result c.in-Here.is (ap (λ (s : Shape). s.buckets) c.requires.shape) c.loop-bucket-test.true c.loop-bucket.invariant.0 c.hand_in.ensures

pub returns-in-Behind : goal.returns-in-Behind
returns-in-Behind g c = hand_stopped c.loop-bucket.bucket c.args.shape.now.buckets c.hand_in.result c.in-Behind.is (ap (λ (s : Shape). s.buckets) c.requires.shape) c.loop-bucket-test.true c.loop-bucket.invariant.0 c.hand_in.ensures

pub returns : goal.returns
returns g c = hand_end c.loop-bucket.bucket c.args.shape.now.buckets (ap (λ (s : Shape). s.buckets) c.requires.shape) c.loop-bucket-test.false c.loop-bucket.invariant.0
