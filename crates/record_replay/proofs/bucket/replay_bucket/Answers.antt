use Rattle.std.proofs.Common.{subst, sym, arith}
use Rattle.map_types.proofs.CreationLemmas.{bounds_of_shape}
use Rattle.place_words.specs.Entries.{entry_read}
use Rattle.place_words.specs.Histories.{in_bucket}
use Rattle.replay_words.specs.Replays.{IsStep}
use Rattle.record_replay.proofs.BucketHistory.{bucket_done, bucket_flaw, more_so_far, none_so_far}
use Rattle.record_replay.proofs.bucket.replay_bucket.Goals as goal

pub loop-i-init : goal.loop-i-init
loop-i-init c = none_so_far c.args.shape.now c.args.entries.now c.requires.sized c.empty-chain.result.bodies c.empty-chain.ensures

pub moves-requires-clause-bounds : goal.moves-requires-clause-bounds
moves-requires-clause-bounds c = bounds_of_shape c.args.shape.now c.requires.shape

pub returns-then-not-branch-clause-replayed : goal.returns-then-not-branch-clause-replayed
returns-then-not-branch-clause-replayed c =
    let entry = entry_read c.at-entry.result in
    bucket_flaw c.args.shape.now c.args.entries.now c.requires.sized c.loop-i.i c.loop-i.chain.bodies entry entry c.loop-i.invariant
    (omega (arith, c.len-i-end.ensures, c.loop-i-test.true)) (sym (c.at-entry.ensures.whatever entry))
    (subst (IsStep c.args.shape.now entry.cpu entry.part (in_bucket c.loop-i.chain.bodies) (in_bucket c.moves.new.chain.bodies)) c.if-not-branch.true c.in_ok-moves.ensures)

pub loop-i-preserved : goal.loop-i-preserved
loop-i-preserved c =
    let entry = entry_read c.at-entry.result in
    more_so_far c.args.shape.now c.args.entries.now c.requires.sized c.loop-i.i c.loop-i.chain.bodies c.moves.new.chain.bodies entry entry c.loop-i.invariant
    (omega (arith, c.len-i-end.ensures, c.loop-i-test.true)) (sym (c.at-entry.ensures.whatever entry))
    (subst (IsStep c.args.shape.now entry.cpu entry.part (in_bucket c.loop-i.chain.bodies) (in_bucket c.moves.new.chain.bodies)) c.if-not-branch.false c.in_ok-moves.ensures)

pub returns-clause-sized : goal.returns-clause-sized
returns-clause-sized c = c.loop-i.invariant.sized

pub returns-clause-replayed : goal.returns-clause-replayed
returns-clause-replayed c =
    bucket_done c.args.shape.now c.args.entries.now c.requires.sized c.loop-i.i c.loop-i.chain.bodies c.loop-i.invariant
    (omega (arith, c.len-i-end.ensures, c.loop-i-test.false))
