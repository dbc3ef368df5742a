-- A map of either sort may be shared by threads.
use denote.Param.Send.{IsSync, recorded_sync, enum_sync}
use denote.Enum.Declared.{shape}
use Rattle.hash_ops.proofs.Crossing.{plain_sync}
use Rattle.lru_ops.proofs.Crossing.{lru_sync}
use Rattle.map_batch.specs.contracts.any_map.AnyMap as AnyMap

pub map_sync : IsSync AnyMap.the_row
map_sync = recorded_sync (AnyMap.the_field).row _ _ (AnyMap.the_type).to_one (enum_sync (shape AnyMap.the_type) ((plain_sync, tt), ((lru_sync, tt), tt)))
