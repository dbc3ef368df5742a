use Rattle.std.proofs.Common.{arith}
use Rattle.place_table.proofs.Locks.{tries_at}
use Rattle.place_table.proofs.steps.try_lock.Goals as goal

pub compare_exchange-requires : goal.compare_exchange-requires
compare_exchange-requires c = (
  c.requires.table,
  omega (arith, c.requires.words, c.requires.lock.0),
  tries_at _ _ _ _ _ c.args.cpu _ c.requires.cpu c.requires.lock.1 c.requires.above c.requires.unread (omega arith),
)
