use denote.Param.Send.{IsSend, IsSync, sendable}
use Rattle.std.proofs.Crossing.{crosses}
use Rattle.std.proofs.alloc.Global.TheSendSync as heap
use Rattle.map_run.specs.contracts.worker.Worker as Worker
use Rattle.map_run.proofs.RaceCrossing.{worker_send}
use Rattle.place_table.specs.contracts.pass.Pass as Pass
use Rattle.place_table.proofs.Crossing.{pass_send}
use Rattle.map_batch.specs.contracts.any_map.AnyMap as AnyMap
use Rattle.map_batch.proofs.Crossing.{map_sync}
use Rattle.map_run.proofs.copy_race.copy_and_work.Goals as goal

pub join_mut-puts-requires-send-F : goal.join_mut-puts-requires-send-F
join_mut-puts-requires-send-F g c κs within = let r = c.type_bounds.sync-R in let t = c.type_bounds.sync-G in let m : IsSync AnyMap.the_row = map_sync in let w : IsSend Worker.the_row = worker_send in let p : IsSend Pass.the_row = pass_send in search (heap.the_sync, crosses, sendable) depth 60 fits 20000
