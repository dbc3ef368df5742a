use Rattle.std.proofs.Common.{sym, subst}
use Rattle.map_types.specs.declared.call.Verb.TheVariants as verbs
use Rattle.place_table.specs.Calls.{reply_of_done}
use Rattle.place_table.specs.KeyCalls.{CalledOn}
use Rattle.map_batch.specs.Calls.{table_of}
use Rattle.map_batch.specs.declared.any_map.AnyMap.{AnyMap}
use Rattle.map_batch.proofs.any_map.AnyMap.delete.Goals as goal

pub returns-in-Plain : goal.returns-in-Plain
returns-in-Plain g c =
    subst (λ (map : AnyMap). CalledOn (table_of map) c.args.pass.now c.delete.new.pass (verbs.Delete c.args.key.now) c.args.key.now (reply_of_done c.delete.result)) (sym c.in-Plain.is) c.delete.ensures

pub returns-in-Lru : goal.returns-in-Lru
returns-in-Lru g c =
    subst (λ (map : AnyMap). CalledOn (table_of map) c.args.pass.now c.delete-in-Lru.new.pass (verbs.Delete c.args.key.now) c.args.key.now (reply_of_done c.delete-in-Lru.result)) (sym c.in-Lru.is) c.delete-in-Lru.ensures
