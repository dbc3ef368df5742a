use Rattle.std.proofs.Common.{◌≡◌, ℕ, ◌<◌, None}
use Rattle.std.specs.Prelude.{slice_get, slice_index_or}
use Rattle.finals_check.proofs.told.spares_told.Given as goal

-- those so far are the spares
abbrev pub invariant-loop-cpu : goal.invariant-loop-cpu
invariant-loop-cpu l = (c : ℕ) → c < l.cpu → slice_index_or l.left c None ≡ slice_get l.finals.spares c
