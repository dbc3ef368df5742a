use Rattle.place_words.proofs.TotalLemmas.{totals}
use Rattle.place_words.proofs.WholeLemmas.{each_in_one_place}
use Rattle.place_core.proofs.laws.place_laws.Goals as goal

pub returns-clause-in_one_place : goal.returns-clause-in_one_place
returns-clause-in_one_place c shape s placed = each_in_one_place shape s placed

pub returns-clause-add_up : goal.returns-clause-add_up
returns-clause-add_up c shape s placed = totals shape s placed
