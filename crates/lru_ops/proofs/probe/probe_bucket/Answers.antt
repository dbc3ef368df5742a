use Rattle.std.proofs.Common.{subst}
use Rattle.map_types.specs.declared.kind.DomainId.TheVariants as locks
use Rattle.place_table.specs.declared.content.Content.{Content}
use Rattle.place_table.specs.Passes.{TookLock}
use Rattle.lru_lists.specs.Probes.{seen_of}
use Rattle.lru_ops.proofs.EvictTurns.{can_take_bucket, inside, evicted}
use Rattle.lru_ops.proofs.probe.probe_bucket.Goals as goal

pub take_at-requires : goal.take_at-requires
take_at-requires g c = can_take_bucket c.args.table.now c.args.bucket c.args.element c.args.pass.now c.requires.can

pub look_in-requires : goal.look_in-requires
look_in-requires g c =
    let took = subst (λ (z : Content). TookLock c.args.table.now (locks.Bucket c.args.bucket) c.args.pass.now c.take_at.new.pass z) c.in-Bucket.is c.take_at.ensures in
    record { inside = inside _ _ _ _ _ _ c.requires.can took }

pub returns : goal.returns
returns g c =
    let took = subst (λ (z : Content). TookLock c.args.table.now (locks.Bucket c.args.bucket) c.args.pass.now c.take_at.new.pass z) c.in-Bucket.is c.take_at.ensures in
    record { evicted = evicted _ _ _ _ _ _ _ (seen_of c.look_in.result) took c.look_in.ensures.ended; body = c.look_in.ensures.body }
