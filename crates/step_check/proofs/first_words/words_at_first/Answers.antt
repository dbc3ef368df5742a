use Rattle.step_check.proofs.OpeningWords.{opening_words, opening_are}
use Rattle.step_check.proofs.first_words.words_at_first.Goals as goal

pub returns-clause-are : goal.returns-clause-are
returns-clause-are c = opening_are c.args.shape.now _ c.in_ok-owners.owners.items c.in_ok-homes.homes.items c.requires c.new.ensures.items c.in_ok-owners.ensures c.in_ok-homes.ensures

pub returns-clause-exact : goal.returns-clause-exact
returns-clause-exact c = opening_words c.args.shape.now _ c.in_ok-owners.owners.items c.in_ok-homes.homes.items c.new.ensures.items c.in_ok-owners.ensures c.in_ok-homes.ensures
