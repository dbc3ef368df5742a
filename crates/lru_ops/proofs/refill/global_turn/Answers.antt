use Rattle.std.proofs.Common.{◌≡◌, rules, sym, subst}
use Rattle.place_words.specs.declared.history.Part.TheVariants as parts
use Rattle.place_words.specs.declared.list_part.GlobalPart.{GlobalPart}
use Rattle.lru_ops.specs.Filling.{IsGlobalTurn}
use Rattle.lru_ops.proofs.refill.global_turn.Goals as goal

pub returns : goal.returns
returns c =
    let same : c.in_ok-ok.field-0 ≡ c.in_ok-turn.turn = search rules in record {
      told = subst (λ (z : GlobalPart). IsGlobalTurn c.args.flushed c.args.turning c.args.moved c.args.shrunk c.args.target c.args.shrinking (parts.Global z)) (sym same) c.in_ok-turn.ensures.told;
    }
