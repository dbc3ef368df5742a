use Rattle.std.proofs.Common.{◌≡◌, ◌<◌, ◌+◌, ℕ, List, [], ◌∷◌, ◌++◌, Option, length, map, take, ap, sym, ◌∙◌, arith}
use Rattle.std.proofs.lemmas.List.{map-append, take_more}
use Rattle.place_words.specs.StrandSteps.{row_read}
use Rattle.place_words.specs.declared.history.StrandStep.{StrandStep}
use Rattle.call_check.specs.PlainRows.{spare_at_step}
use Rattle.call_check.proofs.trace.spares_at.Goals as goal

pub loop-place-preserved : goal.loop-place-preserved
loop-place-preserved c =
    let script = c.args.script.now in
    let row : List StrandStep = row_read c.args.row in
    let place : ℕ = c.loop-place.place in
    let step : StrandStep = c.at.result in
    let spare : StrandStep → Option ℕ = spare_at_step script.cuts script.shape c.args.kept.now.histories c.args.cpu in
    let less : place < length row = omega (arith, c.loop-place-test.true, c.len-place-end.ensures) in
    let more : take (place + 1) row ≡ take place row ++ step ∷ [] = take_more row place step less ∙ ap (λ (s : StrandStep). take place row ++ s ∷ []) (c.at.ensures.whatever step) in
    c.in_ok-push.ensures.items
    ∙ (ap (λ (l : List (Option ℕ)). l ++ c.spare_at.result ∷ []) c.loop-place.invariant
    ∙ (ap (λ (o : Option ℕ). map spare (take place row) ++ o ∷ []) c.spare_at.ensures
    ∙ sym (ap (map spare) more ∙ map-append spare (take place row) (step ∷ []))))
