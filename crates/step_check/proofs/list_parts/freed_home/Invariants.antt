use Rattle.std.proofs.Common.{◌≡◌, ◌++◌, map, drop}
use Rattle.std.specs.List.{flat_map}
use Rattle.place_words.specs.Interleaving.{freed_steps}
use Rattle.step_check.specs.Ran.{step_of}
use Rattle.step_check.proofs.list_parts.freed_home.Given as goal

abbrev pub invariant-loop-element : goal.invariant-loop-element
invariant-loop-element l = map (step_of l.cpu) l.changes.items ++ flat_map (freed_steps l.cpu) (drop l.element-index l.elements) ≡ flat_map (freed_steps l.cpu) l.elements
