use Rattle.map_types.specs.declared.kind.Side.TheVariants.{Prog}
use Rattle.bucket_walks.specs.BatchReads.{IsOfSide}
use Rattle.elem_walk.specs.Walks.{Answers}
use Rattle.elem_walk.proofs.HandedOver.{HandedBefore}
use Rattle.elem_walk.proofs.walk.ElemWalk.hand_on.Given as goal

abbrev pub invariant-loop-bucket : goal.invariant-loop-bucket
invariant-loop-bucket g l = HandedBefore l.table (Answers g.F.Fn l.self.call) l.bucket l.shape.buckets l.fn.pass l.pass l.over × IsOfSide l.shape Prog l.over
