-- What the reader asks of a script holds of each well-formed one.
use Rattle.std.proofs.Common.{◌≡◌, ℕ, suc, ◌==◌, inl, inr, false, List, length, sym, ap, ◌∙◌, arith}
use Rattle.map_types.proofs.CreationLemmas.{bounds_of_shape}
use Rattle.map_script.specs.declared.script.Script.{Script}
use Rattle.map_script.specs.WellFormed.{IsWellFormed}
use Rattle.map_report.specs.declared.record.RunRecord.{RunRecord}
use Rattle.record_reading.specs.ReadRecord.{text_of, read_text}
use Rattle.record_shape.specs.WellShaped.{WellShaped}
use Rattle.record_reading.proofs.ReadLaws.{text_back}
use Rattle.record_reading.proofs.RecordLaws.{IsReadable}

one_cut : (version : ℕ) (cuts : List ℕ) → version ≡ 2 → (version == 2) ≡ false → suc (length cuts) ≡ 1
one_cut version cuts is is_not = absurd (cc (sym is_not ∙ ap (λ v. v == 2) is))

pub readable_of : (script : Script) → IsWellFormed script → IsReadable script
readable_of script well = record {
  bounds = bounds_of_shape script.shape well.shape;
  few_calls = omega (arith, well.few);
  few_phases = omega (arith, well.phases.few);
  one_phase = λ is_not. elim (well.phases.known) [ inl one ↦ ap (λ (cuts : List ℕ). suc (length cuts)) one.1 | inr two ↦ one_cut script.version script.cuts two is_not ];
}

pub one_record : (script : Script) → IsWellFormed script → (kept other : RunRecord) → WellShaped script kept → WellShaped script other → text_of script kept ≡ text_of script other → kept ≡ other
one_record script well kept other fits fits_other same =
    let e = sym (text_back script (readable_of script well) kept fits) ∙ ap (read_text script) same ∙ text_back script (readable_of script well) other fits_other in cc
