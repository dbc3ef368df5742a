use Rattle.place_table.proofs.BucketUnder.{holds_bucket}
use Rattle.lru_ops.proofs.Offering.{updates_alone}
use Rattle.lru_ops.proofs.map.LruMap.write_key.Goals as goal

pub write_present-requires-clause-holds : goal.write_present-requires-clause-holds
write_present-requires-clause-holds g c κs within = holds_bucket c.enter-chain.ensures.inside

pub returns-clause-updates : goal.returns-clause-updates
returns-clause-updates g c =
    updates_alone c.requires.can c.enter-chain.ensures c.write_present.new.pass c.args.side c.args.key.now c.args.value.now c.bucket_of_key-number.ensures.value c.requires.percpu c.write_present.result c.write_present.ensures.ends
