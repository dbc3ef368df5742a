use Rattle.std.proofs.Common.{◌≡◌, ◌++◌, drop, codes, decimal, string_bytes}
use Rattle.std.specs.List.{flat_map}
use Rattle.map_report.proofs.history.push_behind_commas.Given as goal

-- the text so far and the numbers that are left are all the numbers
abbrev pub invariant-loop-number : goal.invariant-loop-number
invariant-loop-number l =
    string_bytes l.text ++ flat_map (λ number. codes "," ++ decimal number) (drop l.number-index l.numbers)
    ≡ string_bytes l.initial.text ++ flat_map (λ number. codes "," ++ decimal number) l.numbers
