use Rattle.std.specs.Prelude.{take}
use Rattle.place_words.specs.Tickets.{all_entries}
use Rattle.record_parts.specs.StrandTables.{AreCounts}
use Rattle.record_parts.proofs.strands.count_all.Given as goal

abbrev pub invariant-loop-history : goal.invariant-loop-history
invariant-loop-history l = AreCounts l.cuts l.size (all_entries (take l.history-index l.histories)) l.counts.items
