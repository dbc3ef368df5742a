use Rattle.std.proofs.Common.{◌≡◌, ◌++◌, drop, string_bytes}
use Rattle.std.specs.List.{flat_map}
use Rattle.hex.specs.Hex.{encode_lower}
use Rattle.map_report.proofs.bucket_part.push_values.Given as goal

-- the text so far and the values that are left are all the values
abbrev pub invariant-loop-value : goal.invariant-loop-value
invariant-loop-value l =
    string_bytes l.text ++ flat_map encode_lower (drop l.value-index l.values) ≡ string_bytes l.initial.text ++ flat_map encode_lower l.values
