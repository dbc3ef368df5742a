use Rattle.std.proofs.Common.{◌∙◌, sym, subst, IfOk, List, [], ℕ}
use Rattle.std.specs.Prelude.{codes}
use Rattle.std.proofs.lemmas.Bool.{cond-true}
use Rattle.map_types.specs.Kind.{is_lru}
use Rattle.record_reading.specs.LineReaders.{marks}
use Rattle.record_reading.specs.Outcomes.{Reads}
use Rattle.record_reading.specs.Readers.{word_then}
use Rattle.record_reading.specs.Sections.{Section, no_line, one_line}
use Rattle.record_reading.proofs.finals.read_marked_of.Goals as goal

pub returns-then-is_lru-clause-lines : goal.returns-then-is_lru-clause-lines
returns-then-is_lru-clause-lines c =
    subst (λ (section : Section (List ℕ)). IfOk c.read_marked.result (Reads section c.args.lines.now.0 c.read_marked.new.lines.0))
    (sym (cond-true (is_lru c.args.shape.now.kind) (one_line (word_then (codes "marked") (marks c.args.shape.now))) (no_line []) (sym c.is_lru.ensures ∙ c.if-is_lru.true))) c.read_marked.ensures.lines
