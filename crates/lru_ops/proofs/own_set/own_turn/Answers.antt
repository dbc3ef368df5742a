use Rattle.std.proofs.Common.{◌≡◌, rules, sym, subst}
use Rattle.place_words.specs.declared.history.Part.TheVariants as parts
use Rattle.place_words.specs.declared.list_part.OwnPart.{OwnPart}
use Rattle.lru_ops.specs.OwnTurns.{IsOwnTurn}
use Rattle.lru_ops.proofs.own_set.own_turn.Goals as goal

pub returns : goal.returns
returns c =
    let same : c.in_ok-ok.field-0 ≡ c.in_ok-turn.turn = search rules in record {
      told = subst (λ (z : OwnPart). IsOwnTurn c.args.hash c.args.turning c.args.shrunk c.args.shrinking c.args.got (parts.Own z)) (sym same) c.in_ok-turn.ensures.told;
    }
