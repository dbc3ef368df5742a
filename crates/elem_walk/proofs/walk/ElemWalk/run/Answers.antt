use Rattle.map_types.proofs.CreationLemmas.{bounds_of_shape}
use Rattle.elem_walk.proofs.HandedOver.{flags_refused, walked_all}
use Rattle.elem_walk.specs.Walks.{Answers}
use Rattle.elem_walk.proofs.walk.ElemWalk.run.Goals as goal

pub returns-then-flags-ne0 : goal.returns-then-flags-ne0
returns-then-flags-ne0 g c = flags_refused (Answers g.F.Fn c.args.self.now.call) c.args.flags c.if-flags-ne0.true

pub hand_on-next-requires-clause-bounds : goal.hand_on-next-requires-clause-bounds
hand_on-next-requires-clause-bounds g c κs within = bounds_of_shape c.args.table.now.shape c.requires.created

pub returns : goal.returns
returns g c = walked_all _ c.hand_on-next.new.over.pairs c.into_pairs.ensures c.if-flags-ne0.false c.hand_on-next.ensures
