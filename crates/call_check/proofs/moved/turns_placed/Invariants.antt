use Rattle.std.specs.Prelude.{◌≡◌, map}
use Rattle.std.specs.List.{range_with_len}
use Rattle.call_check.specs.Moved.{placed_at}
use Rattle.call_check.proofs.moved.turns_placed.Given as goal

abbrev pub invariant-loop-place : goal.invariant-loop-place
invariant-loop-place l = l.turns.items ≡ map (placed_at l.entries) (range_with_len 0 l.place)
