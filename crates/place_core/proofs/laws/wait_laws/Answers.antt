use Rattle.place_words.proofs.LockSteps.{never_stuck}
use Rattle.place_core.proofs.laws.wait_laws.Goals as goal

pub returns : goal.returns
returns c shape s wants are stuck = never_stuck shape s wants are stuck
