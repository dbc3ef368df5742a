-- What a lookup got, wherever it lies.
use Rattle.std.specs.Prelude.{ℕ, List, Option}
use Rattle.trace_check.specs.declared.found.FoundIn.{FoundIn}
use Rattle.trace_check.specs.declared.found.FoundIn.TheVariants.{Lent, Made}

abbrev pub found_of : FoundIn → Option (ℕ × List ℕ)
found_of (Lent found) = found.now
found_of (Made found) = found
