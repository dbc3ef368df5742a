use Rattle.std.proofs.Common.{sym, arith, ◌∙◌}
use Rattle.std.proofs.lemmas.List.{take_more_same}
use Rattle.place_words.specs.Entries.{entry_read}
use Rattle.part_tests.proofs.history.EntriesSame.same.Goals as goal

pub loop-index-preserved : goal.loop-index-preserved
loop-index-preserved c =
    let turn = entry_read c.at.result in
    take_more_same c.args.self.now c.args.other.now c.loop-index.index turn (omega (arith, c.len-index-end.ensures, c.loop-index-test.true))
    (omega (arith, c.len.ensures, c.len-2.ensures, c.if-len.false, c.len-index-end.ensures, c.loop-index-test.true)) c.loop-index.invariant
    (c.at.ensures.whatever turn ∙ c.if-not-same_entry.ensures ∙ sym (c.at-in-loop-index.ensures.whatever turn))
