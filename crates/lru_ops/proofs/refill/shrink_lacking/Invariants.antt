use Rattle.map_types.specs.declared.kind.DomainId.TheVariants.{Global}
use Rattle.lru_ops.specs.declared.probing.Destination.TheVariants.{LocalFree}
use Rattle.lru_ops.specs.OwnTurns.{rows_on}
use Rattle.lru_ops.proofs.refill.shrink_lacking.Given as goal

abbrev pub ghosts-shrink_under : goal.ghosts-shrink_under
ghosts-shrink_under g a = record { start = a.pass.now; lock = Global; rows = rows_on a.set.now; to = LocalFree }
