use Rattle.std.proofs.Common.{◌≡◌, ◌≤◌, length}
use Rattle.key_hash.specs.Jhash.{start, absorb}
use Rattle.key_hash.specs.State.{words_of}
use Rattle.key_hash.proofs.jhash.Given as goal

-- What is left of the key ends the hash of the whole key.
abbrev pub invariant-loop-block : goal.invariant-loop-block
invariant-loop-block l =
    (1 ≤ length l.rest) × (absorb (words_of l.state) l.rest ≡ absorb (start (length l.key) l.seed) l.key)

abbrev pub decreases-loop-block : goal.decreases-loop-block
decreases-loop-block l = length l.rest
