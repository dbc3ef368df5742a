use denote.Param.Send.{IsSend, IsSync, sendable}
use Rattle.std.proofs.Crossing.{crosses}
use Rattle.std.proofs.alloc.Global.TheSendSync as heap
use Rattle.map_types.specs.contracts.call.Call as Call
use Rattle.map_types.proofs.call.Call.TheSendSync as call
use Rattle.map_run.specs.contracts.worker.Worker as Worker
use Rattle.map_run.proofs.RaceCrossing.{worker_send}
use Rattle.map_batch.specs.contracts.any_map.AnyMap as AnyMap
use Rattle.map_batch.proofs.Crossing.{map_sync}
use Rattle.map_run.proofs.race.work_at_once.Goals as goal

pub for_each_mut-requires-send-T : goal.for_each_mut-requires-send-T
for_each_mut-requires-send-T g c κs within = let m : IsSend Worker.the_row = worker_send in search sendable depth 60 fits 20000

pub for_each_mut-requires-sync-F : goal.for_each_mut-requires-sync-F
for_each_mut-requires-sync-F g c κs within = let r = c.type_bounds.sync-R in let t = c.type_bounds.sync-G in let m : IsSync AnyMap.the_row = map_sync in let k : IsSync Call.the_row = call.the_sync in search (heap.the_sync, crosses, sendable) depth 60 fits 20000
