use Rattle.std.proofs.Common.{◌≡◌, ◌<◌, ℕ, List, [], ◌∷◌, length, get_or, ap, ◌∙◌, arith}
use Rattle.place_words.specs.StrandSteps.{row_read}
use Rattle.place_words.specs.declared.history.LockHistory.{LockHistory}
use Rattle.place_words.specs.declared.history.StrandStep.{StrandStep}
use Rattle.evicting_traces.specs.Reading.{Seen, all_seen}
use Rattle.call_check.specs.RightCalls.{turns_named}
use Rattle.call_check.proofs.SeenTurns.{seen_more}
use Rattle.call_check.proofs.seen_rows.seen_row.Goals as goal

pub loop-place-preserved : goal.loop-place-preserved
loop-place-preserved c =
    let shape = c.args.shape.now in
    let histories : List LockHistory = c.args.histories.now.all in
    let row : List StrandStep = row_read c.args.row in
    let place : ℕ = c.loop-place.place in
    let step : StrandStep = c.at.result in
    let less : place < length row = omega (arith, c.loop-place-test.true, c.len-place-end.ensures) in
    let here : all_seen shape (turns_named histories (get_or row place step ∷ [])) ≡ c.seen_at.result ∷ [] =
    ap (λ (s : StrandStep). all_seen shape (turns_named histories (s ∷ []))) (c.at.ensures.whatever step) ∙ c.seen_at.ensures in
    ◌∙◌ {A = List Seen} c.in_ok-push.ensures.items (seen_more shape histories row place step c.loop-place.seens.items c.seen_at.result less c.loop-place.invariant here)
