use Rattle.std.proofs.Common.{◌≡◌, ◌==◌, ◌+◌, subst, sym, ap, IfOk, List, [], ◌∷◌, arith, true, ℕ}
use Rattle.std.specs.List.{range_with_len}
use Rattle.std.proofs.lemmas.Bool.{cond-true}
use Rattle.place_words.specs.Phases.{phase_count}
use Rattle.map_report.specs.declared.record.PhaseStart.{PhaseStart}
use Rattle.record_reading.specs.LineReaders.{phase_start}
use Rattle.record_reading.specs.Outcomes.{Reads}
use Rattle.record_reading.specs.Sections.{Section, no_line, one_line, for_each}
use Rattle.record_shape.specs.WellShaped.{only_start}
use Rattle.record_reading.proofs.starts.read_starts.Goals as goal

pub returns-then-script-eq2-clause-lines : goal.returns-then-script-eq2-clause-lines
returns-then-script-eq2-clause-lines c =
    let script = c.args.script.now in
    let section : ℕ → Section (List PhaseStart) = λ n. for_each (λ phase. one_line (phase_start script.shape phase)) (range_with_len 0 n) in
    let phases : c.len.result + 1 ≡ phase_count script.cuts = omega (arith, c.len.ensures) in
    let second : (script.version == 2) ≡ true = ap (λ v. v == 2) c.if-script-eq2.true in
    subst (λ (read : Section (List PhaseStart)). IfOk c.read_numbered.result (Reads read c.args.lines.now.0 c.read_numbered.new.lines.0)) (sym (cond-true (script.version == 2) (section (phase_count script.cuts)) (no_line (only_start ∷ [])) second))
    (subst (λ n. IfOk c.read_numbered.result (Reads (section n) c.args.lines.now.0 c.read_numbered.new.lines.0)) phases c.read_numbered.ensures.lines)
