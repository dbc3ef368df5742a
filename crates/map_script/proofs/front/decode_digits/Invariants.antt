use Rattle.std.proofs.Common.{◌≡◌, ◌*◌, take, drop}
use Rattle.hex.specs.Hex.{decode_pairs}
use Rattle.hex.proofs.Pairs.{prepend}
use Rattle.map_script.proofs.front.decode_digits.Given as goal

-- the bytes so far and those of what is left are all
abbrev pub invariant-loop-i : goal.invariant-loop-i
invariant-loop-i l =
    decode_pairs 0 l.fn.digits ≡ prepend (take l.i l.bytes) (decode_pairs (2 * l.i) (drop (2 * l.i) l.fn.digits))
