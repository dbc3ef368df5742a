use Rattle.std.proofs.Common.{refl}
use Rattle.record_reading.specs.LineReaders.{entry}
use Rattle.record_reading.specs.Readers.{whole}
use Rattle.record_reading.specs.Sections.{one_line}
use Rattle.record_reading.proofs.LoopLemmas.{many_start, many_none}
use Rattle.record_reading.proofs.histories.read_entries.Goals as goal

pub loop-place-init : goal.loop-place-init
loop-place-init c = (many_start (one_line (whole (entry c.args.shape.now c.args.calls c.args.lock))) c.args.count c.args.lines.now.0 c.none_of-entries.result c.none_of-entries.ensures, refl)

pub returns-in_default-clause-lines : goal.returns-in_default-clause-lines
returns-in_default-clause-lines c =
    many_none (one_line (whole (entry c.args.shape.now c.args.calls c.args.lock))) c.args.count c.loop-place.place c.args.lines.now.0 c.loop-place.lines.0 c.loop-place.entries c.loop-place.invariant.0 c.loop-place-test.true c.read_entry.new.lines.0 c.in_ok-entry.field-0 c.in_ok-entry.ensures.lines c.in_default.is
