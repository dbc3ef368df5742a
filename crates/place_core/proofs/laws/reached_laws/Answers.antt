use Rattle.map_types.proofs.CreationLemmas.{bounds_of_shape}
use Rattle.place_words.proofs.StepLaws.{reached_placed, reached_ranked}
use Rattle.place_words.proofs.TotalLemmas.{totals}
use Rattle.place_words.proofs.WholeLemmas.{each_in_one_place}
use Rattle.place_core.proofs.laws.reached_laws.Goals as goal

pub returns-clause-placed : goal.returns-clause-placed
returns-clause-placed c shape list s is leads = reached_placed shape list s (bounds_of_shape shape is) leads

pub returns-clause-ranked : goal.returns-clause-ranked
returns-clause-ranked c shape list s leads = reached_ranked shape list s leads

pub returns-clause-in_one_place : goal.returns-clause-in_one_place
returns-clause-in_one_place c shape list s is leads =
    each_in_one_place shape s (reached_placed shape list s (bounds_of_shape shape is) leads)

pub returns-clause-add_up : goal.returns-clause-add_up
returns-clause-add_up c shape list s is leads =
    totals shape s (reached_placed shape list s (bounds_of_shape shape is) leads)
