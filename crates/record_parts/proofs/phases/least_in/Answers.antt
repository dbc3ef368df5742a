use Rattle.std.proofs.Common.{sym, arith}
use Rattle.place_words.specs.Entries.{entry_read}
use Rattle.record_flaws.specs.PhaseFlaws.{IsRightEntry}
use Rattle.record_parts.proofs.Least.{least_more}
use Rattle.record_parts.proofs.phases.least_in.Goals as goal

pub loop-index-preserved : goal.loop-index-preserved
loop-index-preserved c =
    let entry = entry_read c.at.result in
    least_more (IsRightEntry c.args.cuts.now c.args.starts.now) c.args.entries.now c.loop-index.index entry c.args.first c.loop-index.least c.least_with-least.result
    (omega (arith, c.len-index-end.ensures, c.loop-index-test.true)) (sym (c.at.ensures.whatever entry)) c.loop-index.invariant c.least_with-least.ensures
