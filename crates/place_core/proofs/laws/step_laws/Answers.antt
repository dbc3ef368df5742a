use Rattle.map_types.proofs.CreationLemmas.{bounds_of_shape}
use Rattle.place_words.proofs.StepLaws.{core_step_placed, core_step_ranked}
use Rattle.place_core.proofs.laws.step_laws.Goals as goal

pub returns-clause-placed : goal.returns-clause-placed
returns-clause-placed c shape step before now is stepped placed =
    core_step_placed shape step before now (bounds_of_shape shape is) stepped placed

pub returns-clause-ranked : goal.returns-clause-ranked
returns-clause-ranked c shape step before now stepped ranked = core_step_ranked shape step before now stepped ranked
