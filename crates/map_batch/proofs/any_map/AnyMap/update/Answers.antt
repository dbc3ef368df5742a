use Rattle.map_batch.specs.Calls.{update_call}
use Rattle.map_batch.proofs.Sorts.{of_plain, of_lru}
use Rattle.map_batch.proofs.any_map.AnyMap.update.Goals as goal

pub returns-in-Plain-clause-updates : goal.returns-in-Plain-clause-updates
returns-in-Plain-clause-updates g c =
    let a = c.args in
    of_plain c.in-Plain.map a.pass.now c.update.new.pass (update_call a.side a.flags a.key.now a.value.now) a.self.now c.table-table.ensures.sort c.plain_answer.result
    c.in-Plain.is c.update.result c.update.ensures.updates c.plain_answer.ensures

pub returns-in-Lru-clause-updates : goal.returns-in-Lru-clause-updates
returns-in-Lru-clause-updates g c =
    let a = c.args in
    of_lru c.in-Lru.map a.pass.now c.update-in-Lru.new.pass (update_call a.side a.flags a.key.now a.value.now) a.self.now c.table-table.ensures.sort c.lru_answer.result
    c.in-Lru.is c.update-in-Lru.result c.update-in-Lru.ensures.updates c.lru_answer.ensures
