use Rattle.std.proofs.Common.{◌≡◌, ◌++◌, drop}
use Rattle.std.specs.List.{flat_map}
use Rattle.map_script.specs.Canonical.{pair_tokens, spaced}
use Rattle.map_script.proofs.text.push_pairs.Given as goal

-- the text so far and the pairs that are left are all the pairs
abbrev pub invariant-loop-i : goal.invariant-loop-i
invariant-loop-i l =
    l.text.items ++ spaced (flat_map pair_tokens (drop l.i l.pairs)) ≡ l.initial.text.items ++ spaced (flat_map pair_tokens l.pairs)
