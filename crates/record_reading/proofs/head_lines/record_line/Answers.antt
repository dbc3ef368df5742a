use Rattle.std.proofs.Common.{◌∙◌, ◌+◌, ◌++◌, suc, sym, ap, arith}
use Rattle.std.specs.Prelude.{codes}
use Rattle.map_report.specs.Words.{number_text}
use Rattle.record_reading.specs.Readers.{the_line}
use Rattle.record_reading.proofs.NameLemmas.{line_not, line_is, line_longer}
use Rattle.record_reading.proofs.head_lines.record_line.Goals as goal

pub returns-in_default : goal.returns-in_default
returns-in_default c = sym (ap (λ n. the_line (codes "record" ++ number_text n) c.args.line.now) {x = suc c.args.version} {y = c.args.version + 1} (omega arith) ∙ line_not (codes "record" ++ number_text (c.args.version + 1)) c.args.line.now c.in_default.ensures)

pub returns-then-is_empty : goal.returns-then-is_empty
returns-then-is_empty c = sym (ap (λ n. the_line (codes "record" ++ number_text n) c.args.line.now) {x = suc c.args.version} {y = c.args.version + 1} (omega arith) ∙ line_is (codes "record" ++ number_text (c.args.version + 1)) c.args.line.now c.in-Some.rest.now c.in-Some.ensures (search (arith)))

pub returns-else-is_empty : goal.returns-else-is_empty
returns-else-is_empty c = sym (ap (λ n. the_line (codes "record" ++ number_text n) c.args.line.now) {x = suc c.args.version} {y = c.args.version + 1} (omega arith) ∙ line_longer (codes "record" ++ number_text (c.args.version + 1)) c.args.line.now c.in-Some.rest.now c.in-Some.ensures (search (arith)))
