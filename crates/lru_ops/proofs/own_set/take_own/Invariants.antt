use Rattle.map_types.specs.declared.kind.DomainId.TheVariants.{CpuLru}
use Rattle.lru_ops.specs.declared.probing.Destination.TheVariants.{OwnFree}
use Rattle.lru_ops.specs.OwnTurns.{rows_on}
use Rattle.lru_ops.proofs.own_set.take_own.Given as goal

abbrev pub ghosts-work_under : goal.ghosts-work_under
ghosts-work_under g a = record { start = a.pass.now; lock = CpuLru a.pass.now.cpu; rows = rows_on a.set.now; to = OwnFree }
