use Rattle.std.proofs.Common.{◌==◌, ◌∙◌, arith}
use Rattle.place_words.specs.declared.history.Entry.{Entry}
use Rattle.place_words.specs.Entries.{entry_read}
use Rattle.record_parts.specs.StrandTables.{cell_of}
use Rattle.record_parts.proofs.Sums.{counted_more}
use Rattle.record_parts.proofs.strands.count_each.Goals as goal

pub loop-index-preserved : goal.loop-index-preserved
loop-index-preserved c =
    let entry = entry_read c.at.result in (
      c.in_ok-count.ensures.size ∙ c.loop-index.invariant.0,
      λ k. counted_more (λ (e : Entry). cell_of c.args.cuts.now e == k) c.args.entries.now c.loop-index.index entry _ _ _
          (omega (arith, c.len-index-end.ensures, c.loop-index-test.true)) (c.at.ensures.whatever entry) (c.loop-index.invariant.1 k) (c.in_ok-count.ensures.counts k),
    )
