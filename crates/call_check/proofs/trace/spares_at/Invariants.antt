use Rattle.std.specs.Prelude.{◌≡◌, take}
use Rattle.place_words.specs.StrandSteps.{row_read}
use Rattle.call_check.specs.PlainRows.{spares_at}
use Rattle.call_check.proofs.trace.spares_at.Given as goal

abbrev pub invariant-loop-place : goal.invariant-loop-place
invariant-loop-place l = l.spares.items ≡ spares_at l.script.cuts l.script.shape l.kept.histories l.cpu (take l.place (row_read l.row))
