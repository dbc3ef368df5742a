use Rattle.std.proofs.Common.{ap, ◌∙◌, sym}
use Rattle.lru_compare.proofs.Alike.{answers_alike}
use Rattle.lru_compare.proofs.run.strict_run.Goals as goal

pub returns-in-Ok-clause-alike : goal.returns-in-Ok-clause-alike
returns-in-Ok-clause-alike c = λ room.
    ap (λ out. out.replies) c.in-Ok.ensures ∙ answers_alike c.args.script.now c.requires (sym c.refused.ensures ∙ c.in-None.is) room
