use Rattle.std.proofs.Common.{ℕ, Bool, ◌&&◌, leb, ap, sym, ◌∙◌, arith}
use Rattle.std.specs.Prelude.{slice_get}
use Rattle.place_words.specs.StrandSteps.{row_read}
use Rattle.place_words.specs.Locks.{lock_number}
use Rattle.record_flaws.specs.StrandFlaws.{passes}
use Rattle.record_parts.specs.StrandTables.{are_named, froms, is_own}
use Rattle.record_parts.proofs.NamedSteps.{froms_first, marks_more, marks_set, named_step, not_named}
use Rattle.record_parts.proofs.strands.are_named.Goals.{then-not-is_own-via-then-not-is_own, then-not-is_own-via-else-not-is_own+then-not-is_next}
use Rattle.record_parts.proofs.strands.are_named.Goals as goal

pub loop-index-init : goal.loop-index-init
loop-index-init c =
    let shape = c.args.shape.now in
    let test = is_own c.args.cuts.now c.args.strand.now.phase c.args.strand.now.cpus in (
      marks_more shape c.args.stamp c.args.marks.now.items c.requires.marks,
      ap (λ (from : ℕ → ℕ). are_named shape c.args.histories.now test from (row_read c.row-steps.result)) (froms_first shape c.args.stamp c.args.marks.now.items c.requires.some c.requires.marks)
          ∙ ap (are_named shape c.args.histories.now test (λ _. 0)) c.row-steps.ensures,
    )

pub loop-index-preserved : goal.loop-index-preserved
loop-index-preserved c =
    let shape = c.args.shape.now in
    let test = is_own c.args.cuts.now c.args.strand.now.phase c.args.strand.now.cpus in
    let step = c.at-step.result in
    let marked = c.if-not-is_next.ensures.marks in (
      marks_set shape c.args.stamp c.loop-index.marks.items c.is_next.new.marks.items c.lock_number-number.result step.index marked c.loop-index.invariant.0,
      named_step shape c.args.histories.now test c.args.stamp c.loop-index.marks.items c.is_next.new.marks.items c.lock_number-number.result (row_read c.row-steps.result) c.loop-index.index step
          (omega (arith, c.len-index-end.ensures, c.loop-index-test.true))
          (c.at-step.ensures.whatever step)
          (ap (λ (es : _). passes test (slice_get es step.index)) (sym c.entries_at-entries.ensures) ∙ (sym c.passes-is_own.ensures ∙ c.if-not-is_own.false))
          c.lock_number-number.ensures.exact
          (sym c.is_next.ensures.exact ∙ c.if-not-is_next.false)
          (omega (arith, c.lock_number-number.ensures.within, c.loop-index.invariant.0.0))
          marked
          ∙ c.loop-index.invariant.1,
    )

pub returns-then-not-is_own-clause-named : goal.returns-then-not-is_own-clause-named
returns-then-not-is_own-clause-named c =
    let shape = c.args.shape.now in
    let test = is_own c.args.cuts.now c.args.strand.now.phase c.args.strand.now.cpus in
    let from = froms c.args.stamp c.loop-index.marks.items in
    let step = c.at-step.result in
    let passing = ap (λ (es : _). passes test (slice_get es step.index)) (sym c.entries_at-entries.ensures) ∙ sym c.passes-is_own.ensures in
    let wrong = not_named shape c.args.histories.now test from (row_read c.row-steps.result) c.loop-index.index step
    (omega (arith, c.len-index-end.ensures, c.loop-index-test.true)) (c.at-step.ensures.whatever step) in
    sym (elim c.then-not-is_own.branch [
      | then-not-is_own-via-then-not-is_own w ↦
          wrong (ap (λ (b : Bool). b && leb (from (lock_number shape step.lock)) step.index) (passing ∙ w.if-not-is_own.true))
      | then-not-is_own-via-else-not-is_own+then-not-is_next w ↦
          wrong (ap (λ (b : Bool). b && leb (from (lock_number shape step.lock)) step.index) (passing ∙ w.if-not-is_own.false)
          ∙ (ap (λ (k : ℕ). leb (from k) step.index) (sym c.lock_number-number.ensures.exact) ∙ (sym w.is_next.ensures.exact ∙ w.if-not-is_next.true)))
    ]) ∙ c.loop-index.invariant.1
