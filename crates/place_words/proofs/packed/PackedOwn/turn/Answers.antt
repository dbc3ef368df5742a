use Rattle.std.proofs.Common.{◌≡◌, IfOk, subst}
use Rattle.place_words.specs.declared.list_part.OwnPart.{OwnPart}
use Rattle.place_words.proofs.packed.PackedOwn.turn.Goals as goal

pub returns-then-active-inactive-le-FEW : goal.returns-then-active-inactive-le-FEW
returns-then-active-inactive-le-FEW c =
    subst (λ (part : OwnPart). IfOk c.few_packed.result (λ packed. packed ≡ part)) (c.few_turn.ensures.turn c.args.shrink) c.few_packed.ensures
