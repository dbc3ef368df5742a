use Rattle.std.proofs.Common.{subst, sym, ap, arith, reverse}
use Rattle.map_types.specs.declared.kind.DomainId.TheVariants as locks
use Rattle.place_words.specs.Entries.{entry_read}
use Rattle.place_words.specs.Histories.{on_freelist}
use Rattle.replay_words.specs.Replays.{IsStep}
use Rattle.replay_words.proofs.Steps.{none_lead, more_lead, flaw_at}
use Rattle.record_replay.proofs.freelist.replay_freelist.Goals as goal

pub loop-i-init : goal.loop-i-init
loop-i-init c = none_lead c.args.shape.now (locks.Freelist c.args.cpu) c.args.entries.now (on_freelist (reverse c.in_ok-stack.stack.items)) (ap on_freelist (sym c.in_ok-stack.ensures))

pub returns-then-not-branch : goal.returns-then-not-branch
returns-then-not-branch c =
    let entry = entry_read c.at.result in
    flaw_at c.args.shape.now (locks.Freelist c.args.cpu) c.args.entries.now c.loop-i.i _ entry entry c.loop-i.invariant
    (omega (arith, c.len-i-end.ensures, c.loop-i-test.true)) (sym (c.at.ensures.whatever entry))
    (subst (IsStep c.args.shape.now entry.cpu entry.part (on_freelist (reverse c.loop-i.stack.items)) (on_freelist (reverse c.moves.new.stack.items))) c.if-not-branch.true (c.in_ok-moves.ensures c.args.shape.now entry.cpu))

pub loop-i-preserved : goal.loop-i-preserved
loop-i-preserved c =
    let entry = entry_read c.at.result in
    more_lead c.args.shape.now (locks.Freelist c.args.cpu) c.args.entries.now c.loop-i.i _ _ entry entry c.loop-i.invariant
    (omega (arith, c.len-i-end.ensures, c.loop-i-test.true)) (sym (c.at.ensures.whatever entry))
    (subst (IsStep c.args.shape.now entry.cpu entry.part (on_freelist (reverse c.loop-i.stack.items)) (on_freelist (reverse c.moves.new.stack.items))) c.if-not-branch.false (c.in_ok-moves.ensures c.args.shape.now entry.cpu))
