use Rattle.lru_ops.proofs.Removed.{can_put_for, chased_for_removed}
use Rattle.lru_ops.proofs.probing.chase.Goals as goal

pub put_removed-requires : goal.put_removed-requires
put_removed-requires g c = record { can = can_put_for c.requires.can c.probe_bucket-probed.new.pass c.probe_bucket-probed.result c.in-Removed.field-0 c.in-Removed.is c.probe_bucket-probed.ensures }

pub returns-in-Removed : goal.returns-in-Removed
returns-in-Removed g c =
    chased_for_removed c.requires.can c.probe_bucket-probed.new.pass c.put_removed.new.pass c.probe_bucket-probed.result c.in-Removed.field-0 c.in-Removed.is c.probe_bucket-probed.ensures c.put_removed.ensures
