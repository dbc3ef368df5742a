use Rattle.std.proofs.Common.{subst}
use Rattle.map_types.specs.declared.kind.DomainId.TheVariants.{Bucket}
use Rattle.place_table.specs.declared.content.Content.{Content}
use Rattle.place_table.specs.Passes.{TookLock}
use Rattle.place_table.proofs.PartsMade.{made_part}
use Rattle.public_calls.proofs.TableTurns.{misses, went}
use Rattle.public_calls.proofs.tables.misses_the_key.Goals as goal

pub give-requires-after_bounds : goal.give-requires-after_bounds
give-requires-after_bounds g c κs within =
    let took : TookLock c.args.table.now (Bucket 0) c.args.pass.now c.take.new.pass _ = subst (λ (z : Content). TookLock c.args.table.now (Bucket 0) c.args.pass.now c.take.new.pass z) c.in-Bucket.is c.take.ensures in
    (misses c.requires.can took c.args.key.now c.find.result c.if-is_some.ensures c.find.ensures.holder c.ok.result (made_part _ c.lookup_missed-part.result c.ok.ensures.value c.lookup_missed-part.ensures)).0

pub returns : goal.returns
returns g c =
    let took : TookLock c.args.table.now (Bucket 0) c.args.pass.now c.take.new.pass _ = subst (λ (z : Content). TookLock c.args.table.now (Bucket 0) c.args.pass.now c.take.new.pass z) c.in-Bucket.is c.take.ensures in
    λ _. went c.requires.can took _ c.give.new.pass ((misses c.requires.can took c.args.key.now c.find.result c.if-is_some.ensures c.find.ensures.holder c.ok.result (made_part _ c.lookup_missed-part.result c.ok.ensures.value c.lookup_missed-part.ensures)).1 c.give.new.pass c.give.ensures)
