use Rattle.std.proofs.Common.{refl}
use Rattle.map_batch.proofs.LruFreed.{freed_none, can_free_top, freed_top, same_room, fewer_left, freed_all, none_left}
use Rattle.map_batch.proofs.take_lru.free_all.Goals as goal

pub loop-body-init : goal.loop-body-init
loop-body-init g c = (freed_none c.requires, refl)

pub push_free-requires : goal.push_free-requires
push_free-requires g c = (c.type_bounds.sync-G, can_free_top c.pop.new.self c.in-Some.body c.loop-body.invariant.0 c.in-Some.ensures.top)

pub loop-body-preserved : goal.loop-body-preserved
loop-body-preserved g c = (
  freed_top c.pop.new.self c.in-Some.body c.loop-body.invariant.0 c.in-Some.ensures.top c.push_free.new.pass c.push_free.ensures,
  same_room c.pop.new.self c.in-Some.body c.loop-body.invariant.0 c.in-Some.ensures.top _ c.in-Some.ensures.room c.loop-body.invariant.1,
)

pub loop-body-smaller : goal.loop-body-smaller
loop-body-smaller g c = fewer_left c.pop.new.self c.in-Some.body c.loop-body.invariant.0 c.in-Some.ensures.top

pub returns-clause-freed : goal.returns-clause-freed
returns-clause-freed g c = freed_all c.loop-body.invariant.0 c.in_default.ensures.top.0

pub returns-clause-empty : goal.returns-clause-empty
returns-clause-empty g c = none_left c.in_default.ensures.top.0 c.in_default.ensures.top.1 c.loop-body.invariant.1
