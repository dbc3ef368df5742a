use Rattle.std.proofs.Common.{◌≡◌, ◌<◌, ◌+◌, ◌*◌, ℕ, Bool, true, false, List, length, get_or, replicate, take, ap, sym, ◌∙◌, subst, inl, inr, arith}
use Rattle.std.specs.Prelude.{All, MatchBool}
use Rattle.std.proofs.lemmas.Bool.{cases_lt}
use Rattle.map_types.proofs.CreationLemmas.{bounds_of_shape}
use Rattle.place_words.specs.declared.history.Entry.{Entry}
use Rattle.place_words.specs.declared.history.LockHistory.{LockHistory}
use Rattle.place_words.specs.declared.history.Strand.{Strand}
use Rattle.record_flaws.specs.StrandFlaws.{IsRightPlace}
use Rattle.record_parts.specs.StrandTables.{AreMarks, AreMet, cell, nothing_marked}
use Rattle.place_words.specs.Locks.{lock_count}
use Rattle.record_parts.proofs.Places.{places_counted}
use Rattle.record_parts.proofs.NamedSteps.{none_marked}
use Rattle.record_parts.proofs.StrandJudged.{all_were_met, cpus_low, end_right, entries_on_cpus, met_more, none_met, phase_low, strand_at}
use Rattle.record_parts.proofs.strands.strand_flaw.Goals as goal

pub count_all-requires-clause-cpus : goal.count_all-requires-clause-cpus
count_all-requires-clause-cpus c =
    subst (λ (hs : List LockHistory). All (λ (history : LockHistory). All (λ (entry : Entry). entry.cpu < 16) history.entries) hs) (sym c.as_slice-histories.ensures)
    (entries_on_cpus c.args.script.now c.args.kept.now c.requires.script c.requires.shaped)

pub loop-place-init : goal.loop-place-init
loop-place-init c =
    let size : ℕ = (length c.as_slice-cuts.result.now + 1) * 16 in
    let met : c.in_ok-met.met.items ≡ replicate size false = c.in_ok-met.ensures.items_if_clones_equal (λ y same. same) in
    let marks : c.in_ok-marks.marks.items ≡ replicate c.len.result nothing_marked = c.in_ok-marks.ensures.items_if_clones_equal (λ y same. same) in
    let many : c.len.result ≡ lock_count c.args.script.now.shape = omega (arith, c.len.ensures, places_counted c.args.script.now.shape c.in_ok-places.places.items c.in_ok-places.ensures, c.in_ok-places.places.ok.0) in
    (none_met size c.in_ok-met.met.items met, none_marked c.args.script.now.shape c.len.result c.in_ok-marks.marks.items many marks, λ q less. absurd (omega (arith, less)))

pub meet-requires-clause-phase : goal.meet-requires-clause-phase
meet-requires-clause-phase c =
    let at = strand_at c.as_slice-strands.result.now c.args.kept.now.strands c.loop-place.place c.index-strands-place.result c.as_slice-strands.ensures (omega (arith, ap length c.as_slice-strands.ensures)) c.index-strands-place.is in
    let low = phase_low c.args.script.now c.args.kept.now c.requires.script c.requires.shaped c.loop-place.place c.index-strands-place.result at in
    omega (arith, low, c.requires.script.phases.few)

pub meet-requires-clause-size : goal.meet-requires-clause-size
meet-requires-clause-size c =
    let at = strand_at c.as_slice-strands.result.now c.args.kept.now.strands c.loop-place.place c.index-strands-place.result c.as_slice-strands.ensures (omega (arith, ap length c.as_slice-strands.ensures)) c.index-strands-place.is in
    let low = phase_low c.args.script.now c.args.kept.now c.requires.script c.requires.shaped c.loop-place.place c.index-strands-place.result at in
    omega (arith, low, c.loop-place.invariant.0.0, ap length c.as_slice-cuts.ensures)

pub meet-requires-clause-cpus : goal.meet-requires-clause-cpus
meet-requires-clause-cpus c =
    let at = strand_at c.as_slice-strands.result.now c.args.kept.now.strands c.loop-place.place c.index-strands-place.result c.as_slice-strands.ensures (omega (arith, ap length c.as_slice-strands.ensures)) c.index-strands-place.is in
    cpus_low c.args.script.now c.args.kept.now c.requires.script c.requires.shaped c.loop-place.place c.index-strands-place.result at

pub loop-place-preserved : goal.loop-place-preserved
loop-place-preserved c =
    let script = c.args.script.now in
    let kept = c.args.kept.now in
    let n : ℕ = c.loop-place.place in
    let at = strand_at c.as_slice-strands.result.now kept.strands n c.index-strands-place.result c.as_slice-strands.ensures (omega (arith, ap length c.as_slice-strands.ensures)) c.index-strands-place.is in
    let size : ℕ = (length c.as_slice-cuts.result.now + 1) * 16 in
    let are : AreMet size (take n kept.strands) c.loop-place.met.items = subst (λ (xs : List Strand). AreMet size (take n xs) c.loop-place.met.items) c.as_slice-strands.ensures c.loop-place.invariant.0 in
    let next : n + 2 ≡ n + 1 + 1 = omega arith in (
      subst (λ (xs : List Strand). AreMet size (take (n + 1) xs) c.meet.new.met.items) (sym c.as_slice-strands.ensures)
          (met_more script kept c.requires.script c.requires.shaped n c.index-strands-place.result at size c.loop-place.met.items are c.meet.new.met.items c.meet.ensures.size c.meet.ensures.met),
      subst (λ (k : ℕ). AreMarks script.shape k c.is_right.new.marks.items) next c.in_ok-is.ensures.marks,
      λ q less. elim (cases_lt q n) [
        | inl before ↦ c.loop-place.invariant.2 q before
        | inr behind ↦
            let here : n ≡ q = omega (arith, less, behind) in
            subst (IsRightPlace script kept) here (subst (λ (b : Bool). MatchBool b (IsRightPlace script kept n) (IsRightPlace script kept n → ⊥)) c.if-not-is.false c.in_ok-is.ensures.right)
      ],
    )

pub all_met-requires-clause-cpus : goal.all_met-requires-clause-cpus
all_met-requires-clause-cpus c = (bounds_of_shape c.args.script.now.shape c.requires.script.shape).cpus_bounded

pub returns-then-all_met : goal.returns-then-all_met
returns-then-all_met c =
    let script = c.args.script.now in
    let kept = c.args.kept.now in
    let size : ℕ = (length c.as_slice-cuts.result.now + 1) * 16 in
    let n : ℕ = c.loop-place.place in
    let counted = ap length c.as_slice-strands.ensures in
    let end : n ≡ length kept.strands = omega (arith, counted) in
    let are : AreMet size (take n kept.strands) c.loop-place.met.items = subst (λ (xs : List Strand). AreMet size (take n xs) c.loop-place.met.items) c.as_slice-strands.ensures c.loop-place.invariant.0 in
    let cuts = ap length c.as_slice-cuts.ensures in
    let all : (phase cpu : ℕ) → phase < length c.as_slice-cuts.result.now + 1 → cpu < script.shape.cpus → get_or c.as_slice-2.result.now (cell phase cpu) false ≡ true =
    subst (λ (b : Bool). MatchBool b
    ((phase cpu : ℕ) → phase < length c.as_slice-cuts.result.now + 1 → cpu < script.shape.cpus → get_or c.as_slice-2.result.now (cell phase cpu) false ≡ true)
    (((phase cpu : ℕ) → phase < length c.as_slice-cuts.result.now + 1 → cpu < script.shape.cpus → get_or c.as_slice-2.result.now (cell phase cpu) false ≡ true) → ⊥)) c.if-all_met.true c.all_met.ensures in
    λ place less. elim (cases_lt place n) [
      | inl before ↦ c.loop-place.invariant.2 place before
      | inr behind ↦
          end_right script kept c.requires.script size n c.loop-place.met.items are end
          (λ phase cpu phase_in cpu_in. ap (λ (xs : List Bool). get_or xs (cell phase cpu) false) (sym c.as_slice-2.ensures.value) ∙ all phase cpu (omega (arith, phase_in, cuts)) cpu_in)
          place (omega (arith, less, behind, end))
    ]

pub returns : goal.returns
returns c =
    let script = c.args.script.now in
    let kept = c.args.kept.now in
    let size : ℕ = (length c.as_slice-cuts.result.now + 1) * 16 in
    let n : ℕ = c.loop-place.place in
    let counted = ap length c.as_slice-strands.ensures in
    let end : n ≡ length kept.strands = omega (arith, counted) in
    let are : AreMet size (take n kept.strands) c.loop-place.met.items = subst (λ (xs : List Strand). AreMet size (take n xs) c.loop-place.met.items) c.as_slice-strands.ensures c.loop-place.invariant.0 in
    let cuts = ap length c.as_slice-cuts.ensures in (
      omega (arith, counted),
      λ right.
          let all = all_were_met script kept c.requires.script size n c.loop-place.met.items are end (right.each counted) in
          let wrong : ((phase cpu : ℕ) → phase < length c.as_slice-cuts.result.now + 1 → cpu < script.shape.cpus → get_or c.as_slice-2.result.now (cell phase cpu) false ≡ true) → ⊥ =
          subst (λ (b : Bool). MatchBool b
          ((phase cpu : ℕ) → phase < length c.as_slice-cuts.result.now + 1 → cpu < script.shape.cpus → get_or c.as_slice-2.result.now (cell phase cpu) false ≡ true)
          (((phase cpu : ℕ) → phase < length c.as_slice-cuts.result.now + 1 → cpu < script.shape.cpus → get_or c.as_slice-2.result.now (cell phase cpu) false ≡ true) → ⊥)) c.if-all_met.false c.all_met.ensures in
          wrong (λ phase cpu phase_in cpu_in. ap (λ (xs : List Bool). get_or xs (cell phase cpu) false) c.as_slice-2.ensures.value ∙ all phase cpu (omega (arith, phase_in, cuts)) cpu_in),
      λ place less. c.loop-place.invariant.2 place (omega (arith, less, counted, end)),
    )
