use Rattle.record_check.proofs.Flushing.{flushes_below}
use Rattle.record_check.proofs.lock.replay_globals.Goals as goal

pub replay_global-requires-clause-below : goal.replay_global-requires-clause-below
replay_global-requires-clause-below c = flushes_below c.args.shape.now c.requires.fits.0 c.args.entries.now c.requires.fits.1
