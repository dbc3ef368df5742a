use Rattle.lru_ops.specs.declared.probing.Destination.TheVariants.{OwnHand}
use Rattle.lru_ops.specs.Thefts.{last_lock}
use Rattle.lru_ops.proofs.steal.walk.Given as goal

abbrev pub ghosts-search_sparing : goal.ghosts-search_sparing
ghosts-search_sparing g a = record { start = a.pass.now; lock = last_lock a.table.now.shape a.pass.now.view.held; rows = a.lists.now.pending; to = OwnHand }

abbrev pub ghosts-search_all : goal.ghosts-search_all
ghosts-search_all g a = record { start = a.pass.now; lock = last_lock a.table.now.shape a.pass.now.view.held; rows = a.lists.now.pending; to = OwnHand }
