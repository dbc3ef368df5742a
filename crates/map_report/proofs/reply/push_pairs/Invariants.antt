use Rattle.std.proofs.Common.{◌≡◌, ◌++◌, drop, string_bytes}
use Rattle.std.specs.List.{flat_map}
use Rattle.map_report.specs.Text.{pair_text}
use Rattle.map_report.proofs.reply.push_pairs.Given as goal

-- the text so far and the pairs that are left are all the pairs
abbrev pub invariant-loop-i : goal.invariant-loop-i
invariant-loop-i l =
    string_bytes l.text ++ flat_map pair_text (drop l.i l.pairs) ≡ string_bytes l.initial.text ++ flat_map pair_text l.pairs
