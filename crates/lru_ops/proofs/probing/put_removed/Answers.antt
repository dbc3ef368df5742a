use Rattle.lru_ops.proofs.Removed.{can_go, went_there, can_free_own, freed_own, can_come_home, can_free_local, freed_local, can_be_carried, carried_off}
use Rattle.lru_ops.proofs.probing.put_removed.Goals as goal

pub settle-requires : goal.settle-requires
settle-requires c = can_free_own (can_go c.in-OwnFree.is c.requires.can) c.cpu_of-cpu.result c.cpu_of-cpu.ensures.value

pub returns-in-OwnFree : goal.returns-in-OwnFree
returns-in-OwnFree c =
    went_there c.in-OwnFree.is (freed_own (can_go c.in-OwnFree.is c.requires.can) c.cpu_of-cpu.result c.settle.new.pass c.cpu_of-cpu.ensures.value c.settle.ensures)

pub rehome-requires : goal.rehome-requires
rehome-requires c = can_come_home (can_go c.in-LocalFree.is c.requires.can) c.cpu_of-cpu.result c.cpu_of-cpu.ensures.value

pub settle-requires-in-LocalFree : goal.settle-requires-in-LocalFree
settle-requires-in-LocalFree c =
    can_free_local (can_go c.in-LocalFree.is c.requires.can) c.cpu_of-cpu.result c.rehome.new.pass c.cpu_of-cpu.ensures.value c.rehome.ensures

pub returns-in-LocalFree : goal.returns-in-LocalFree
returns-in-LocalFree c =
    went_there c.in-LocalFree.is (freed_local (can_go c.in-LocalFree.is c.requires.can) c.cpu_of-cpu.result c.rehome.new.pass c.settle-in-LocalFree.new.pass c.cpu_of-cpu.ensures.value c.rehome.ensures c.settle-in-LocalFree.ensures)

pub rehome-requires-in-OwnHand : goal.rehome-requires-in-OwnHand
rehome-requires-in-OwnHand c = can_be_carried (can_go c.in-OwnHand.is c.requires.can) c.cpu_of-cpu.result c.cpu_of-cpu.ensures.value

pub returns-in-OwnHand : goal.returns-in-OwnHand
returns-in-OwnHand c =
    went_there c.in-OwnHand.is (carried_off (can_go c.in-OwnHand.is c.requires.can) c.cpu_of-cpu.result c.rehome-in-OwnHand.new.pass c.cpu_of-cpu.ensures.value c.rehome-in-OwnHand.ensures)
