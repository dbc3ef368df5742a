use Rattle.std.proofs.Common.{subst}
use Rattle.map_types.specs.declared.kind.DomainId.TheVariants as locks
use Rattle.place_table.specs.declared.content.Content.{Content}
use Rattle.place_table.specs.Passes.{TookLock}
use Rattle.place_table.proofs.BucketUnder.{entered}
use Rattle.place_table.proofs.table.PlaceTable.enter_bucket.Goals as goal

pub returns : goal.returns
returns g c = entered c.requires (subst (λ (z : Content). TookLock c.args.self.now (locks.Bucket c.args.bucket) c.args.pass.now c.take.new.pass z) c.in-Bucket.is c.take.ensures)
