use Rattle.refusals.proofs.StepLemmas.{takes_no_second, gives_the_rows, claims_only_free, settles_to_free, clears_in_hand}
use Rattle.refusals.proofs.steps.step_refusals.Goals as goal

pub returns : goal.returns
returns c = record { take = takes_no_second; give = gives_the_rows; claim = claims_only_free; settle = settles_to_free; clear = clears_in_hand }
