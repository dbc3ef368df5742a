use Rattle.std.proofs.Common.{sym, subst}
use Rattle.map_types.specs.declared.call.Verb.TheVariants as verbs
use Rattle.place_table.specs.Calls.{reply_of_value}
use Rattle.place_table.specs.KeyCalls.{CalledOn}
use Rattle.map_batch.specs.Calls.{table_of}
use Rattle.map_batch.specs.declared.any_map.AnyMap.{AnyMap}
use Rattle.map_batch.proofs.any_map.AnyMap.lookup.Goals as goal

pub returns-in-Plain-clause-called : goal.returns-in-Plain-clause-called
returns-in-Plain-clause-called g c =
    subst (λ (map : AnyMap). CalledOn (table_of map) c.args.pass.now c.lookup.new.pass (verbs.Lookup c.args.side c.args.key.now) c.args.key.now (reply_of_value c.lookup.result c.lookup.new.out)) (sym c.in-Plain.is) c.lookup.ensures.called

pub returns-in-Lru-clause-called : goal.returns-in-Lru-clause-called
returns-in-Lru-clause-called g c =
    subst (λ (map : AnyMap). CalledOn (table_of map) c.args.pass.now c.lookup-in-Lru.new.pass (verbs.Lookup c.args.side c.args.key.now) c.args.key.now (reply_of_value c.lookup-in-Lru.result c.lookup-in-Lru.new.out)) (sym c.in-Lru.is) c.lookup-in-Lru.ensures.called
