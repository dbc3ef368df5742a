use Rattle.place_words.specs.Entries.{entry_read}
use Rattle.record_parts.proofs.Least.{least_here}
use Rattle.record_parts.proofs.phases.least_with.Goals as goal

pub returns-then-not-is_on_time : goal.returns-then-not-is_on_time
returns-then-not-is_on_time c =
    least_here c.args.cuts.now c.args.starts.now (entry_read c.args.entry) c.args.first c.phase_of-phase.result c.phase_of-phase.ensures.exact c.if-phase-first.true c.if-not-is_on_time.ensures
