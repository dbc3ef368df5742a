use Rattle.std.proofs.Common.{◌∷◌, ap, ◌∙◌}
use Rattle.bucket_chain.proofs.Fronts.{removed_at}
use Rattle.bucket_chain.proofs.cells.Cells.replace.Goals as goal

pub returns-clause-taken : goal.returns-clause-taken
returns-clause-taken c =
    (removed_at c.args.place c.args.self.now c.take_front-before.result c.take_front-before.new.self c.pop-taken.new.self c.put_front.new.self c.pop-taken.result
    c.take_front-before.ensures.front c.take_front-before.ensures.rest c.pop-taken.ensures c.put_front.ensures).0

pub returns-clause-bodies : goal.returns-clause-bodies
returns-clause-bodies c =
    c.push.ensures ∙ ap (λ rest. c.args.new ∷ rest)
    (removed_at c.args.place c.args.self.now c.take_front-before.result c.take_front-before.new.self c.pop-taken.new.self c.put_front.new.self c.pop-taken.result
    c.take_front-before.ensures.front c.take_front-before.ensures.rest c.pop-taken.ensures c.put_front.ensures).1
