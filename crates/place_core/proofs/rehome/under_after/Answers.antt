use Rattle.place_core.proofs.RehomeLemmas.{under_here, under_else}
use Rattle.place_core.proofs.rehome.under_after.Goals as goal

pub returns-then-number-other : goal.returns-then-number-other
returns-then-number-other c = under_here c.args.lists.now c.args.other c.args.number c.args.now.now c.if-number-other.true

pub returns-else-number-other : goal.returns-else-number-other
returns-else-number-other c = under_else c.args.lists.now c.args.other c.args.number c.args.now.now c.index-lists-number.result c.requires c.if-number-other.false c.index-lists-number.is
