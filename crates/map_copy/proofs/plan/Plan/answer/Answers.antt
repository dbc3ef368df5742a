use Rattle.std.specs.Option.{option_copied}
use Rattle.map_copy.proofs.CopyLemmas.{copied_on}
use Rattle.map_copy.proofs.plan.Plan.answer.Goals as goal

pub returns-clause-so_far : goal.returns-clause-so_far
returns-clause-so_far c =
    copied_on c.args.self.now c.go_on.new.self c.args.page.now (option_copied c.args.put) c.go_on.result c.requires.page c.requires.put
    c.go_on.ensures.goes_on c.go_on.ensures.exact
