use Rattle.map_types.specs.declared.kind.DomainId.TheVariants.{Global}
use Rattle.lru_ops.specs.declared.probing.Destination.TheVariants.{LocalFree}
use Rattle.lru_ops.specs.OwnTurns.{rows_on}
use Rattle.lru_ops.proofs.refill.fill.Given as goal

abbrev pub ghosts-rotate_under : goal.ghosts-rotate_under
ghosts-rotate_under g a = record { start = a.pass.now; lock = Global; rows = rows_on a.set.now; to = LocalFree }
