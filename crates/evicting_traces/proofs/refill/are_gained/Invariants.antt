use Rattle.std.proofs.Common.{◌≡◌, ◌++◌, drop}
use Rattle.std.specs.Prelude.{bytes_eq}
use Rattle.place_words.specs.Takings.{freed_by}
use Rattle.evicting_traces.proofs.refill.are_gained.Given as goal

abbrev pub invariant-loop-element : goal.invariant-loop-element
invariant-loop-element l = bytes_eq (l.free ++ freed_by l.shrink) l.elements ≡ bytes_eq (drop l.element-index l.free ++ freed_by l.shrink) l.left
