use Rattle.std.proofs.Common.{sym, subst}
use Rattle.map_types.specs.Shape.{HasBounds}
use Rattle.map_types.proofs.CreationLemmas.{bounds_of_shape}
use Rattle.place_table.specs.Passes.{TableView}
use Rattle.map_batch.specs.Calls.{table_of}
use Rattle.map_batch.proofs.walks.next_key.Goals as goal

pub next_key-requires-clause-bounds : goal.next_key-requires-clause-bounds
next_key-requires-clause-bounds g c κs within =
    subst (λ (t : TableView). HasBounds t.shape) (sym c.table.ensures.value) (bounds_of_shape (table_of c.args.map.now).shape c.table.ensures.shape)
