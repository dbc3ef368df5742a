use Rattle.std.proofs.Common.{◌≡◌, take}
use Rattle.std.specs.List.{list_all}
use Rattle.map_script.specs.Lines.{is_allowed}
use Rattle.map_script.proofs.lines.is_all_allowed.Given as goal

abbrev pub invariant-loop-byte : goal.invariant-loop-byte
invariant-loop-byte l = l.all ≡ list_all is_allowed (take l.byte-index l.text)
