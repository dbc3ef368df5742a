use Rattle.std.proofs.Common.{◌+◌, List, length, ap, sym, ◌∙◌, subst, arith}
use Rattle.std.proofs.lemmas.Option.{slice_get_within}
use Rattle.place_words.specs.declared.history.Strand.{Strand}
use Rattle.call_check.proofs.KnownStrands.{cpus_low, phase_low, strand_at}
use Rattle.call_check.proofs.StrandOf.{FirstLead, one_more_leads}
use Rattle.call_check.proofs.strand_of.strands_by_cpu.Goals as goal

pub write_cpus-requires-clause-phase : goal.write_cpus-requires-clause-phase
write_cpus-requires-clause-phase c =
    let at = strand_at c.as_slice-strands.result.now c.args.kept.now.strands c.loop-place.place c.index-strands-place.result c.as_slice-strands.ensures (omega (arith, ap length c.as_slice-strands.ensures)) c.index-strands-place.is in
    let low = phase_low c.args.script.now c.args.kept.now c.requires.script c.requires.shaped c.loop-place.place c.index-strands-place.result at in
    omega (arith, low, c.requires.script.phases.few)

pub write_cpus-requires-clause-size : goal.write_cpus-requires-clause-size
write_cpus-requires-clause-size c =
    let at = strand_at c.as_slice-strands.result.now c.args.kept.now.strands c.loop-place.place c.index-strands-place.result c.as_slice-strands.ensures (omega (arith, ap length c.as_slice-strands.ensures)) c.index-strands-place.is in
    let low = phase_low c.args.script.now c.args.kept.now c.requires.script c.requires.shaped c.loop-place.place c.index-strands-place.result at in
    omega (arith, low, c.loop-place.invariant.0)

pub write_cpus-requires-clause-cpus : goal.write_cpus-requires-clause-cpus
write_cpus-requires-clause-cpus c =
    let at = strand_at c.as_slice-strands.result.now c.args.kept.now.strands c.loop-place.place c.index-strands-place.result c.as_slice-strands.ensures (omega (arith, ap length c.as_slice-strands.ensures)) c.index-strands-place.is in
    cpus_low c.args.script.now c.args.kept.now c.requires.script c.requires.shaped c.loop-place.place c.index-strands-place.result at

pub loop-place-preserved : goal.loop-place-preserved
loop-place-preserved c =
    let script = c.args.script.now in
    let kept = c.args.kept.now in
    let at = strand_at c.as_slice-strands.result.now kept.strands c.loop-place.place c.index-strands-place.result c.as_slice-strands.ensures (omega (arith, ap length c.as_slice-strands.ensures)) c.index-strands-place.is in
    let before : FirstLead kept.strands c.loop-place.table.items c.loop-place.place = subst (λ (xs : List Strand). FirstLead xs c.loop-place.table.items c.loop-place.place) c.as_slice-strands.ensures c.loop-place.invariant.1 in (
      c.write_cpus.ensures.size ∙ c.loop-place.invariant.0,
      subst (λ (xs : List Strand). FirstLead xs c.write_cpus.new.table.items (c.loop-place.place + 1)) (sym c.as_slice-strands.ensures)
          (one_more_leads script kept c.requires.script c.requires.shaped c.requires.strands c.loop-place.place c.index-strands-place.result at c.loop-place.table.items c.write_cpus.new.table.items c.write_cpus.ensures.written before),
    )

pub returns-clause-lead : goal.returns-clause-lead
returns-clause-lead c =
    let kept = c.args.kept.now in
    let all : FirstLead kept.strands c.loop-place.table.items c.loop-place.place = subst (λ (xs : List Strand). FirstLead xs c.loop-place.table.items c.loop-place.place) c.as_slice-strands.ensures c.loop-place.invariant.1 in
    λ n strand at cpu has. all n strand (omega (arith, slice_get_within kept.strands n strand at, ap length c.as_slice-strands.ensures)) at cpu has
