use Rattle.record_reading.specs.RecordReaders.{record_section}
use Rattle.record_reading.proofs.LoopLemmas.{none_read, some_read}
use Rattle.record_reading.proofs.RecordCases.{is_record, at_left, at_fault}
use Rattle.record_reading.proofs.record.read_record.Goals as goal

pub returns-then-is_over : goal.returns-then-is_over
returns-then-is_over c =
    is_record c.args.script.now c.requires.script c.args.text.now c.of-lines.result c.read_sections.new.lines c.of-lines.ensures c.in-Ok-Some.kept (some_read (record_section c.args.script.now) c.of-lines.result.0 c.read_sections.new.lines.0 c.in-Ok-Some.field-0 c.in-Ok-Some.kept c.in-Ok-Some.ensures.lines c.in-Ok-Some.field-0-is) c.read_sections.ensures.rest c.if-is_over.ensures

pub returns-else-is_over : goal.returns-else-is_over
returns-else-is_over c =
    at_left c.args.script.now c.requires.script c.args.text.now c.of-lines.result c.read_sections.new.lines c.of-lines.ensures c.in-Ok-Some.kept (some_read (record_section c.args.script.now) c.of-lines.result.0 c.read_sections.new.lines.0 c.in-Ok-Some.field-0 c.in-Ok-Some.kept c.in-Ok-Some.ensures.lines c.in-Ok-Some.field-0-is) c.read_sections.ensures.rest c.if-is_over.ensures c.line_number.result c.line_number.ensures

pub returns-in-Ok-None : goal.returns-in-Ok-None
returns-in-Ok-None c =
    at_fault c.args.script.now c.requires.script c.args.text.now c.of-lines.result c.read_sections.new.lines c.of-lines.ensures (none_read (record_section c.args.script.now) c.of-lines.result.0 c.read_sections.new.lines.0 c.in-Ok-None.field-0 c.in-Ok-None.ensures.lines c.in-Ok-None.field-0-is) c.line_number-in-Ok-None.result c.line_number-in-Ok-None.ensures
