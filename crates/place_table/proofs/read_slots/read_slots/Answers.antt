use Rattle.std.proofs.Common.{sym, subst}
use Rattle.place_table.specs.Closing.{ClosedView}
use Rattle.place_table.specs.Leaving.{WasLeft}
use Rattle.place_table.proofs.read_slots.read_slots.Goals as goal

pub returns : goal.returns
returns c = λ log lost bit strands contents told counted apart kept set finished.
    subst (λ (z : ClosedView). WasLeft c.args.shape.now log lost bit strands c.args.spares.now z) (sym c.in_ok-same.ensures) (c.in_ok-closed.ensures log lost bit strands contents told counted apart kept set finished)
