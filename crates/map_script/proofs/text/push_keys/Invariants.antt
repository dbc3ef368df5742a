use Rattle.std.proofs.Common.{◌≡◌, ◌++◌, drop, map}
use Rattle.hex.specs.Hex.{encode_lower}
use Rattle.map_script.specs.Canonical.{spaced}
use Rattle.map_script.proofs.text.push_keys.Given as goal

-- the text so far and the keys that are left are all the keys
abbrev pub invariant-loop-key : goal.invariant-loop-key
invariant-loop-key l =
    l.text.items ++ spaced (map encode_lower (drop l.key-index l.keys)) ≡ l.initial.text.items ++ spaced (map encode_lower l.keys)
