use Rattle.std.proofs.Common.{Bool, sym, ◌∙◌, subst}
use Rattle.std.specs.Prelude.{MatchBool}
use Rattle.std.proofs.lemmas.Bool.{both_ways}
use Rattle.place_words.specs.declared.history.Strand.{Strand}
use Rattle.record_flaws.specs.StrandFlaws.{HasOwnSteps, IsRightPlace}
use Rattle.record_parts.proofs.StrandJudged.{decided, fits, place_right, strand_at}
use Rattle.record_parts.proofs.strands.is_right.Goals as goal

pub are_own_calls-requires-clause-steps : goal.are_own_calls-requires-clause-steps
are_own_calls-requires-clause-steps c =
    let at = strand_at c.as_slice-strands.result.now c.args.kept.now.strands c.args.place c.index-strands-place.result c.as_slice-strands.ensures c.requires.place c.index-strands-place.is in
    (fits c.args.script.now c.args.kept.now c.requires.script c.requires.shaped c.args.place c.index-strands-place.result at).steps

pub returns-clause-right : goal.returns-clause-right
returns-clause-right c =
    let script = c.args.script.now in
    let kept = c.args.kept.now in
    let strand : Strand = c.index-strands-place.result in
    let at = strand_at c.as_slice-strands.result.now kept.strands c.args.place strand c.as_slice-strands.ensures c.requires.place c.index-strands-place.is in
    let has : HasOwnSteps script kept c.args.place strand =
    subst (λ (b : Bool). MatchBool b (HasOwnSteps script kept c.args.place strand) (HasOwnSteps script kept c.args.place strand → ⊥)) c.if-not-branch.false c.in_ok-has_own_steps.ensures.right in
    decided c.are_own_calls.result (IsRightPlace script kept c.args.place)
    (λ is. place_right script kept c.args.place strand at (record { own_steps = has; own_calls = sym c.are_own_calls.ensures ∙ is }))
    (λ is_not right. both_ways c.are_own_calls.result is_not (c.are_own_calls.ensures ∙ (right.strand strand at).own_calls))
