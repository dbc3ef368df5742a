use Rattle.record_replay.proofs.Fitting.{fitting_are_sized}
use Rattle.record_replay.proofs.claims.replay_laws.Goals as goal

pub returns : goal.returns
returns c = fitting_are_sized
