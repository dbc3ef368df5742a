use Rattle.std.proofs.Common.{◌≡◌, map}
use Rattle.place_table.specs.Leaving.{finished_told}
use Rattle.place_table.proofs.read_slots.strands_left.Given as goal

-- the strands so far
abbrev pub invariant-loop-strand : goal.invariant-loop-strand
invariant-loop-strand l =
    (goal.iterator-loop-strand).can_next l.strand-iterator
    × (goal.iterator-loop-strand).is_finite l.strand-iterator
    × (l.strands.items ≡ map (finished_told l.shape) l.yielded)
