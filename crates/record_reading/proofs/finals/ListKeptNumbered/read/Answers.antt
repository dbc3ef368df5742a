use Rattle.std.proofs.Common.{◌≡◌, ◌∙◌, List, ◌∷◌, drop, refl, sym, ap, subst}
use Rattle.record_reading.specs.Sections.{Line}
use Rattle.record_reading.proofs.StoredLemmas.{StoredSoFar, stored_start, stored_more, stored_done, stored_end}
use Rattle.record_reading.proofs.finals.ListKeptNumbered.read.Goals as goal

pub loop-line-init : goal.loop-line-init
loop-line-init c = (stored_start c.args.shape.now c.args.number c.args.lines.now.0 c.of-bucket.result (cc), refl)

pub returns-in_default-2-clause-lines : goal.returns-in_default-2-clause-lines
returns-in_default-2-clause-lines c =
    stored_done c.args.shape.now c.args.number c.args.lines.now.0 c.loop-line.lines.0 c.loop-line.bucket c.loop-line.invariant.0 c.in-Some.line.now (drop 1 c.loop-line.lines.0) c.in-Some.ensures c.in_ok-kept.field-0 c.in_ok-kept.ensures c.in_default-2.is

pub loop-line-preserved : goal.loop-line-preserved
loop-line-preserved c =
    let behind : c.loop-line.lines.0 ≡ c.in-Some.line.now ∷ c.pass.new.self.0 = c.in-Some.ensures ∙ ap (λ (l : List Line). c.in-Some.line.now ∷ l) (sym c.pass.ensures.lines) in (
      subst (StoredSoFar c.args.shape.now c.args.number c.args.lines.now.0 c.pass.new.self.0) (sym c.in_ok-push.ensures.added)
          (stored_more c.args.shape.now c.args.number c.args.lines.now.0 c.loop-line.lines.0 c.loop-line.bucket c.loop-line.invariant.0 c.in-Some.line.now c.pass.new.self.0 behind c.in-Some-2.kept (sym c.in-Some-2.is ∙ c.in_ok-kept.ensures)),
      c.pass.ensures.rest ∙ c.loop-line.invariant.1,
    )

pub returns-clause-lines : goal.returns-clause-lines
returns-clause-lines c = stored_end c.args.shape.now c.args.number c.args.lines.now.0 c.loop-line.lines.0 c.loop-line.bucket c.loop-line.invariant.0 c.in_default.ensures
