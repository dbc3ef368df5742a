use Rattle.std.proofs.Common.{[], ◌∷◌, ◌++◌, ap, ◌∙◌}
use Rattle.place_table.proofs.LogsTell.{one_log_more}
use Rattle.place_table.proofs.strands.with_log.Goals as goal

pub returns : goal.returns
returns c = λ shape strands last have is_log.
    one_log_more shape strands last c.args.logs c.in_ok-logs.logs c.args.log c.push_reserved.new.self.items c.in_ok-logs.was
    (c.push_reserved.ensures.items ∙ ap (λ logs. logs ++ c.args.log ∷ []) c.reserve.ensures.items) have is_log
