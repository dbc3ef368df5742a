use Rattle.std.proofs.Common.{◌≡◌, ◌++◌, map, take}
use Rattle.place_words.specs.Codes.{owner_code}
use Rattle.place_table.proofs.create.push_codes.Given as goal

abbrev pub invariant-loop-owner : goal.invariant-loop-owner
invariant-loop-owner l = l.words.items ≡ l.initial.words.items ++ map owner_code (take l.owner-index l.owners)
