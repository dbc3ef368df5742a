use Rattle.std.proofs.Common.{◌≡◌, ◌<◌, ℕ, Bool, true, false, List, length, get_or, ap, sym, ◌∙◌, arith}
use Rattle.std.specs.Prelude.{◌&&◌}
use Rattle.std.proofs.lemmas.List.Folds.{list_all_at, list_all_more}
use Rattle.place_words.specs.StrandSteps.{row_read}
use Rattle.place_words.specs.declared.history.StrandStep.{StrandStep}
use Rattle.call_check.specs.RightCalls.{is_of_cpu}
use Rattle.call_check.proofs.steps.are_of_cpu.Goals as goal

pub returns-then-not-is_of_cpu : goal.returns-then-not-is_of_cpu
returns-then-not-is_of_cpu c =
    let steps : List StrandStep = row_read c.args.steps in
    let place : ℕ = c.loop-place.place in
    let step : StrandStep = c.at.result in
    let test : StrandStep → Bool = is_of_cpu c.args.histories.now.all c.args.cpu in
    let less : place < length steps = omega (arith, c.loop-place-test.true, c.len-place-end.ensures) in
    let not : test (get_or steps place step) ≡ false = ap test (c.at.ensures.whatever step) ∙ (sym c.is_of_cpu.ensures ∙ c.if-not-is_of_cpu.true) in
    sym (list_all_at test steps place step less not)

pub loop-place-preserved : goal.loop-place-preserved
loop-place-preserved c =
    let steps : List StrandStep = row_read c.args.steps in
    let place : ℕ = c.loop-place.place in
    let step : StrandStep = c.at.result in
    let test : StrandStep → Bool = is_of_cpu c.args.histories.now.all c.args.cpu in
    let less : place < length steps = omega (arith, c.loop-place-test.true, c.len-place-end.ensures) in
    let is : test (get_or steps place step) ≡ true = ap test (c.at.ensures.whatever step) ∙ (sym c.is_of_cpu.ensures ∙ c.if-not-is_of_cpu.false) in
    list_all_more test steps place step less ∙ (ap (λ (b : Bool). b && test (get_or steps place step)) c.loop-place.invariant ∙ is)
