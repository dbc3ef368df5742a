use Rattle.bucket_chain.proofs.Fronts.{removed_at}
use Rattle.bucket_chain.proofs.cells.Cells.remove.Goals as goal

pub returns-clause-taken : goal.returns-clause-taken
returns-clause-taken c =
    (removed_at c.args.place c.args.self.now c.take_front-front.result c.take_front-front.new.self c.pop-taken.new.self c.put_front.new.self c.pop-taken.result
    c.take_front-front.ensures.front c.take_front-front.ensures.rest c.pop-taken.ensures c.put_front.ensures).0

pub returns-clause-rest : goal.returns-clause-rest
returns-clause-rest c =
    (removed_at c.args.place c.args.self.now c.take_front-front.result c.take_front-front.new.self c.pop-taken.new.self c.put_front.new.self c.pop-taken.result
    c.take_front-front.ensures.front c.take_front-front.ensures.rest c.pop-taken.ensures c.put_front.ensures).1
