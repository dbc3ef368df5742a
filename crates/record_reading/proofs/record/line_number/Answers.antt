use Rattle.std.proofs.Common.{length, ap, arith}
use Rattle.record_reading.proofs.RecordCases.{counted}
use Rattle.record_reading.proofs.record.line_number.Goals as goal

pub overflow_cast-result : goal.overflow_cast-result
overflow_cast-result c = omega (arith, c.requires, counted c.args.text.now, c.count.ensures, c.saturating_sub.ensures, ap (λ (l : _). length l.0) c.of-all.ensures)

pub overflow_add-result : goal.overflow_add-result
overflow_add-result c = omega (arith, c.requires, counted c.args.text.now, c.count.ensures, c.saturating_sub.ensures, ap (λ (l : _). length l.0) c.of-all.ensures)
