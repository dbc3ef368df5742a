use Rattle.std.proofs.Common.{◌≡◌, ◌∙◌, ◌+◌, length, refl, sym, ap, subst, arith, List, ◌∷◌, drop}
use Rattle.place_words.specs.Phases.{phase_count}
use Rattle.record_reading.specs.LineReaders.{step_part}
use Rattle.record_reading.specs.Readers.{whole}
use Rattle.record_reading.specs.Sections.{Line, one_line, so_many}
use Rattle.record_reading.proofs.LoopLemmas.{some_read}
use Rattle.record_reading.proofs.StrandLemmas.{many_shrinks, at_phases, StrandsSoFar, strands_start, strands_more, strands_none, strands_done, strands_end}
use Rattle.record_reading.proofs.strands.read_strands.Goals as goal

pub loop-line-init : goal.loop-line-init
loop-line-init c = (strands_start c.args.script.now c.args.lines.now.0 c.of-strands.result (cc), refl)

pub returns-in_default-head-clause-lines : goal.returns-in_default-head-clause-lines
returns-in_default-head-clause-lines c =
    let script = c.args.script.now in
    let phases : c.len.result + 1 ≡ phase_count script.cuts = omega (arith, c.len.ensures) in
    strands_done script c.loop-line.least c.args.lines.now.0 c.loop-line.lines.0 c.loop-line.strands c.loop-line.invariant.0 c.in-Some.line.now (drop 1 c.loop-line.lines.0) c.in-Some.ensures c.in_ok-head.head
    (at_phases script c.loop-line.least c.in-Some.line.now (c.len.result + 1) phases c.in_ok-head.head c.in_ok-head.ensures) c.in_default-head.is

pub returns-in_default-2-clause-lines : goal.returns-in_default-2-clause-lines
returns-in_default-2-clause-lines c =
    let behind : c.loop-line.lines.0 ≡ c.in-Some.line.now ∷ c.pass.new.self.0 = c.in-Some.ensures ∙ ap (λ (l : List Line). c.in-Some.line.now ∷ l) (sym c.pass.ensures.lines) in
    let script = c.args.script.now in
    let phases : c.len.result + 1 ≡ phase_count script.cuts = omega (arith, c.len.ensures) in
    strands_none script c.loop-line.least c.args.lines.now.0 c.loop-line.lines.0 c.loop-line.strands c.loop-line.invariant.0 c.in-Some.line.now c.pass.new.self.0 behind c.in-Some-head.phase c.in-Some-head.cpus c.in-Some-head.count
    (sym c.in-Some-head.is ∙ at_phases script c.loop-line.least c.in-Some.line.now (c.len.result + 1) phases c.in_ok-head.head c.in_ok-head.ensures) c.in_ok-steps.field-0 c.read_steps.new.lines.0 c.in_ok-steps.ensures.lines c.in_default-2.is

pub loop-line-smaller : goal.loop-line-smaller
loop-line-smaller c =
    let behind : c.loop-line.lines.0 ≡ c.in-Some.line.now ∷ c.pass.new.self.0 = c.in-Some.ensures ∙ ap (λ (l : List Line). c.in-Some.line.now ∷ l) (sym c.pass.ensures.lines) in
    let read = some_read (so_many c.in-Some-head.count (one_line (whole (step_part c.args.script.now.shape)))) c.pass.new.self.0 c.read_steps.new.lines.0 c.in_ok-steps.field-0 c.in-Some-2.steps c.in_ok-steps.ensures.lines c.in-Some-2.is in
    omega (arith, many_shrinks (whole (step_part c.args.script.now.shape)) c.in-Some-head.count c.pass.new.self.0 c.in-Some-2.steps c.read_steps.new.lines.0 read, ap length behind)

pub loop-line-preserved : goal.loop-line-preserved
loop-line-preserved c =
    let behind : c.loop-line.lines.0 ≡ c.in-Some.line.now ∷ c.pass.new.self.0 = c.in-Some.ensures ∙ ap (λ (l : List Line). c.in-Some.line.now ∷ l) (sym c.pass.ensures.lines) in
    let script = c.args.script.now in
    let phases : c.len.result + 1 ≡ phase_count script.cuts = omega (arith, c.len.ensures) in
    let read = some_read (so_many c.in-Some-head.count (one_line (whole (step_part script.shape)))) c.pass.new.self.0 c.read_steps.new.lines.0 c.in_ok-steps.field-0 c.in-Some-2.steps c.in_ok-steps.ensures.lines c.in-Some-2.is in (
      subst (StrandsSoFar script c.in-Some-head.phase c.args.lines.now.0 c.read_steps.new.lines.0) (sym c.in_ok-push.ensures.added)
          (strands_more script c.loop-line.least c.args.lines.now.0 c.loop-line.lines.0 c.loop-line.strands c.loop-line.invariant.0 c.in-Some.line.now c.pass.new.self.0 behind c.in-Some-head.phase c.in-Some-head.cpus c.in-Some-head.count
          (sym c.in-Some-head.is ∙ at_phases script c.loop-line.least c.in-Some.line.now (c.len.result + 1) phases c.in_ok-head.head c.in_ok-head.ensures) c.in-Some-2.steps c.read_steps.new.lines.0 read),
      c.read_steps.ensures.rest ∙ c.pass.ensures.rest ∙ c.loop-line.invariant.1,
    )

pub returns-clause-lines : goal.returns-clause-lines
returns-clause-lines c = strands_end c.args.script.now c.loop-line.least c.args.lines.now.0 c.loop-line.lines.0 c.loop-line.strands c.loop-line.invariant.0 c.in_default.ensures
