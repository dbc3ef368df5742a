use Rattle.std.proofs.Common.{◌≡◌, ℕ, List, ap, sym, ◌∙◌, arith}
use Rattle.std.proofs.lemmas.Bool.{both_ways}
use Rattle.place_words.specs.declared.history.LockHistory.{LockHistory}
use Rattle.place_words.specs.declared.history.Strand.{Strand}
use Rattle.record_flaws.specs.StrandFlaws.{HasOwnSteps}
use Rattle.record_parts.specs.StrandTables.{are_named, is_own}
use Rattle.record_parts.proofs.StrandJudged.{cpus_low, decided, fits, met_wrong, not_met, phase_low, right_due, right_named, steps_right}
use Rattle.record_parts.proofs.strands.has_own_steps.Goals as goal

pub has_met-requires-clause-phase : goal.has_met-requires-clause-phase
has_met-requires-clause-phase c =
    let low = phase_low c.args.script.now c.args.kept.now c.requires.script c.requires.shaped c.args.place c.args.strand.now c.requires.there in
    omega (arith, low, c.requires.script.phases.few)

pub has_met-requires-clause-size : goal.has_met-requires-clause-size
has_met-requires-clause-size c =
    let low = phase_low c.args.script.now c.args.kept.now c.requires.script c.requires.shaped c.args.place c.args.strand.now c.requires.there in
    omega (arith, low, c.requires.met.0)

pub has_met-requires-clause-cpus : goal.has_met-requires-clause-cpus
has_met-requires-clause-cpus c =
    cpus_low c.args.script.now c.args.kept.now c.requires.script c.requires.shaped c.args.place c.args.strand.now c.requires.there

pub entries_due-requires-clause-phase : goal.entries_due-requires-clause-phase
entries_due-requires-clause-phase c =
    let low = phase_low c.args.script.now c.args.kept.now c.requires.script c.requires.shaped c.args.place c.args.strand.now c.requires.there in
    omega (arith, low, c.requires.script.phases.few)

pub entries_due-requires-clause-size : goal.entries_due-requires-clause-size
entries_due-requires-clause-size c =
    let low = phase_low c.args.script.now c.args.kept.now c.requires.script c.requires.shaped c.args.place c.args.strand.now c.requires.there in
    omega (arith, low, c.requires.counts.0)

pub entries_due-requires-clause-cpus : goal.entries_due-requires-clause-cpus
entries_due-requires-clause-cpus c =
    cpus_low c.args.script.now c.args.kept.now c.requires.script c.requires.shaped c.args.place c.args.strand.now c.requires.there

pub are_named-requires-clause-steps : goal.are_named-requires-clause-steps
are_named-requires-clause-steps c =
    (fits c.args.script.now c.args.kept.now c.requires.script c.requires.shaped c.args.place c.args.strand.now c.requires.there).steps

pub returns-then-has_met-clause-right : goal.returns-then-has_met-clause-right
returns-then-has_met-clause-right c = λ right.
    met_wrong c.args.script.now c.args.kept.now c.requires.script c.requires.shaped c.args.place c.args.strand.now c.requires.there _ c.args.met.now c.requires.met
    (sym c.has_met.ensures ∙ c.if-has_met.true) right

pub returns-then-due-len-clause-right : goal.returns-then-due-len-clause-right
returns-then-due-len-clause-right c = λ right.
    let due = right_due c.args.script.now c.args.kept.now c.requires.script c.requires.shaped c.args.place c.args.strand.now c.requires.there _ c.args.counts.now c.requires.counts right in
    absurd (omega (arith, due, c.in_ok-due.ensures, c.len.ensures, c.if-due-len.true))

pub returns-clause-right : goal.returns-clause-right
returns-clause-right c =
    let script = c.args.script.now in
    let kept = c.args.kept.now in
    let strand : Strand = c.args.strand.now in
    let named : c.are_named.result ≡ are_named script.shape kept.histories (is_own script.cuts strand.phase strand.cpus) (λ _. 0) strand.steps =
    c.are_named.ensures.named
    ∙ (ap (λ (hs : List LockHistory). are_named script.shape hs (is_own c.as_slice-cuts.result.now strand.phase strand.cpus) (λ _. 0) strand.steps) c.as_slice-histories.ensures
    ∙ ap (λ (cuts : List ℕ). are_named script.shape kept.histories (is_own cuts strand.phase strand.cpus) (λ _. 0) strand.steps) c.as_slice-cuts.ensures) in
    let due = sym c.in_ok-due.ensures ∙ (c.if-due-len.false ∙ c.len.ensures) in
    decided c.are_named.result (HasOwnSteps script kept c.args.place strand)
    (λ is. (record {
      apart = not_met script kept c.requires.script c.requires.shaped c.args.place strand c.requires.there _ c.args.met.now c.requires.met (sym c.has_met.ensures ∙ c.if-has_met.false);
      steps = steps_right script kept c.requires.script c.requires.shaped c.args.place strand c.requires.there _ c.args.counts.now c.requires.counts due (sym named ∙ is);
    }))
    (λ is_not right. both_ways c.are_named.result is_not (named ∙ right_named script kept c.requires.script c.requires.shaped c.args.place strand c.requires.there right))
