use Rattle.std.proofs.Common.{◌≡◌, drop}
use Rattle.std.specs.Prelude.{bytes_eq}
use Rattle.place_words.specs.Shrinking.{freed}
use Rattle.evicting_traces.proofs.refill.are_freed.Given as goal

abbrev pub invariant-loop-look : goal.invariant-loop-look
invariant-loop-look l = bytes_eq (freed l.looks l.forced) l.elements ≡ bytes_eq (freed (drop l.look-index l.looks) l.forced) l.left
