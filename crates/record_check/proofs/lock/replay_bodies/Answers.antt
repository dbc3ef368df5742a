use Rattle.std.proofs.Common.{rules, ◌∙◌, refl}
use Rattle.map_types.specs.declared.kind.DomainId.TheVariants as locks
use Rattle.finals_check.specs.declared.told.Lying.TheVariants as lying
use Rattle.place_words.specs.Histories.{in_bucket}
use Rattle.replay_words.specs.Replays.{StopsAt}
use Rattle.record_replay.proofs.Fitting.{fitting_are_sized}
use Rattle.record_check.proofs.Loops.{lock_replays}
use Rattle.record_check.proofs.lock.replay_bodies.Goals as goal

pub returns-in_err-chain : goal.returns-in_err-chain
returns-in_err-chain c =
    let stops : StopsAt c.args.shape.now (locks.Bucket c.args.number) c.args.entries.now c.in_err-chain.field-0.0 = c.in_err-chain.ensures.replayed c.args.number in
    search rules

pub returns : goal.returns
returns c =
    lock_replays c.args.shape.now c.args.finals.now (locks.Bucket c.args.number) c.args.entries.now (in_bucket c.in_ok-chain.chain.bodies) (lying.Bucket c.in_ok-chain.chain.bodies) c.in_ok-bucket_told.field-0 c.of.result
    (c.in_ok-chain.ensures.replayed c.args.number) refl c.in_ok-bucket_told.ensures (c.of.ensures ∙ c.new.ensures.items)

pub replay_bucket-requires-clause-sized : goal.replay_bucket-requires-clause-sized
replay_bucket-requires-clause-sized c = fitting_are_sized c.args.shape.now c.requires.fits.0 c.args.number c.args.entries.now c.requires.fits.1
