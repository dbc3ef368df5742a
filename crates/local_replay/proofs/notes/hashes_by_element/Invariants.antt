use Rattle.std.proofs.Common.{◌≡◌, ℕ, reverse, take}
use Rattle.std.specs.BTreeMap as tree
use Rattle.std.specs.Ordering.{nat_cmp}
use Rattle.place_words.specs.Takings.{stored_hash}
use Rattle.local_replay.proofs.notes.hashes_by_element.Given as goal

-- of the rows so far
abbrev pub invariant-loop-row : goal.invariant-loop-row
invariant-loop-row l = (e : ℕ) → tree.get nat_cmp l.hashes e ≡ stored_hash e (reverse (take l.row-index l.rows))
