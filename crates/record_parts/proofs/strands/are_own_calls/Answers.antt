use Rattle.std.proofs.Common.{◌≡◌, ap, sym, ◌∙◌, arith}
use Rattle.std.specs.List.{list_all}
use Rattle.std.proofs.lemmas.List.Folds.{list_all_at}
use Rattle.place_words.specs.StrandSteps.{row_read}
use Rattle.record_flaws.specs.StrandFlaws.{is_own_call}
use Rattle.record_parts.proofs.OwnCalls.{own_more}
use Rattle.record_parts.proofs.strands.are_own_calls.Goals as goal

pub loop-index-preserved : goal.loop-index-preserved
loop-index-preserved c =
    let test = is_own_call c.args.script.now c.args.kept.now c.args.strand.now in
    let own : c.is_own_call.result ≡ test c.at-step.result = cc in
    own_more test (row_read c.row-steps.result) c.args.strand.now.steps c.loop-index.index c.at-step.result c.row-steps.ensures (omega (arith, c.len-index-end.ensures, c.loop-index-test.true)) (c.at-step.ensures.whatever c.at-step.result)
    (sym own ∙ c.if-not-is_own_call.false) c.loop-index.invariant

pub returns-then-not-is_own_call : goal.returns-then-not-is_own_call
returns-then-not-is_own_call c =
    let test = is_own_call c.args.script.now c.args.kept.now c.args.strand.now in
    let own : c.is_own_call.result ≡ test c.at-step.result = cc in
    sym (list_all_at test (row_read c.row-steps.result) c.loop-index.index c.at-step.result (omega (arith, c.len-index-end.ensures, c.loop-index-test.true))
    (ap test (c.at-step.ensures.whatever c.at-step.result) ∙ (sym own ∙ c.if-not-is_own_call.true))) ∙ ap (list_all test) c.row-steps.ensures
