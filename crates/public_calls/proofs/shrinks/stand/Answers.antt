use Rattle.std.proofs.Common.{List, subst}
use Rattle.map_types.specs.declared.row.Row.{Row}
use Rattle.map_types.specs.ElementLists.{IsIn}
use Rattle.map_types.specs.Listed.{elements_of}
use Rattle.public_calls.proofs.shrinks.stand.Goals as goal

pub set_cursor-requires : goal.set_cursor-requires
set_cursor-requires c =
    subst (λ (rows : List Row). IsIn c.args.element (elements_of rows)) c.rows.ensures.exact (c.before-2.ensures.present.0 c.if-is_none.ensures).0
