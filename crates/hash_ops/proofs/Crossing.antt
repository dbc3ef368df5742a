-- A map may be shared by threads, as its table may.
use denote.Param.Send.{IsSync, view_sync, recorded_sync, struct_sync}
use denote.Struct.Declared.{shape}
use Rattle.place_table.proofs.Crossing.{table_sync}
use Rattle.hash_ops.specs.contracts.map.PlainMap as Map
use Rattle.hash_ops.specs.contracts.map.PlainMap.TheInside as InMap

pub plain_sync : IsSync Map.the_row
plain_sync = view_sync InMap.the_row _ _ _ _ (recorded_sync (InMap.the_field).row _ _ (InMap.the_type).to_one (struct_sync (shape InMap.the_type) (table_sync, tt)))
