use Rattle.std.proofs.Common.{sym, subst}
use Rattle.map_types.specs.declared.call.Verb.TheVariants as verbs
use Rattle.place_table.specs.Calls.{reply_of_value}
use Rattle.place_table.specs.KeyCalls.{CalledOn}
use Rattle.map_batch.specs.Calls.{table_of}
use Rattle.map_batch.specs.declared.any_map.AnyMap.{AnyMap}
use Rattle.map_batch.proofs.any_map.AnyMap.take_key.Goals as goal

pub returns-in-Plain-clause-called : goal.returns-in-Plain-clause-called
returns-in-Plain-clause-called g c =
    subst (λ (map : AnyMap). CalledOn (table_of map) c.args.pass.now c.take_key.new.pass (verbs.Take c.args.key.now) c.args.key.now (reply_of_value c.take_key.result c.take_key.new.out)) (sym c.in-Plain.is) c.take_key.ensures.called

pub returns-in-Lru-clause-called : goal.returns-in-Lru-clause-called
returns-in-Lru-clause-called g c =
    subst (λ (map : AnyMap). CalledOn (table_of map) c.args.pass.now c.take_key-in-Lru.new.pass (verbs.Take c.args.key.now) c.args.key.now (reply_of_value c.take_key-in-Lru.result c.take_key-in-Lru.new.out)) (sym c.in-Lru.is) c.take_key-in-Lru.ensures.called
