use Rattle.std.proofs.Common.{refl, subst, sym}
use Rattle.public_calls.specs.Tables.{IsTurned}
use Rattle.public_calls.proofs.TableTurns.{at_first, turned}
use Rattle.public_calls.proofs.tables.finds_nothing.Goals as goal

pub returns : goal.returns
returns g c = λ found.
    let one = c.if-not-misses_the_key.ensures refl in
    let two = c.finds_no_head.ensures found in
    turned (turned (subst (IsTurned c.args.table.now) (sym c.begin.ensures) (at_first c.requires.first c.requires.least)) one.2) two.2
