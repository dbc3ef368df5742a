use Rattle.std.specs.Prelude.{◌≡◌, ◌+◌, drop}
use Rattle.place_words.specs.StrandSteps.{row_read}
use Rattle.record_parts.specs.StrandTables.{AreMarks, are_named, froms, is_own}
use Rattle.record_parts.proofs.strands.are_named.Given as goal

abbrev pub invariant-loop-index : goal.invariant-loop-index
invariant-loop-index l = AreMarks l.shape (l.stamp + 1) l.marks.items
    × (are_named l.shape l.histories (is_own l.cuts l.strand.phase l.strand.cpus) (froms l.stamp l.marks.items) (drop l.index (row_read l.steps))
    ≡ are_named l.shape l.histories (is_own l.cuts l.strand.phase l.strand.cpus) (λ _. 0) l.strand.steps)
