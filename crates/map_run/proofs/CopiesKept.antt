-- In which runs a copy is kept.
use Rattle.std.proofs.Common.{◌≡◌, ℕ, Bool, true, false, List, Option, Some, None, refl, ap, sym, ◌∙◌}
use Rattle.std.specs.Prelude.{◌&&◌, MatchBool, is_some}
use Rattle.map_report.specs.declared.record.RunRecord.{RunRecord}
use Rattle.map_script.specs.Reading.{is_copy}
use Rattle.map_script.specs.declared.script.Script.{Script}
use Rattle.map_script.specs.declared.script.Target.{Target}
use Rattle.run_words.specs.declared.words.Asked.{Asked}
use Rattle.run_words.specs.declared.words.Mode.{Mode}
use Rattle.run_words.specs.declared.words.Mode.TheVariants.{Serial, Race, Gen, Compare, Check, Copy}
use Rattle.run_words.specs.Words.{mode_of}
use Rattle.run_endings.specs.declared.record.CopyRecord.{CopyRecord}
use Rattle.run_endings.specs.Finish.{CopyKept, Ending, BadWords, ReadFault, TooLong, Faulty, Refused, Unfit, OutOfMemory, Ran, Undivided, Told, HasCause, IsCopyFrom, copy_of, form_of, judges, kept_in, kept_of}
use Rattle.record_check.specs.Said.{IsSaid}
use Rattle.run_ends.specs.SourceReads.{Rose}
use Rattle.map_run.specs.CopiesKept.{KeepsCopies}
use Rattle.map_run.specs.Finish.{RanAs, RanInto}

found_so : {C : Type 0} (Of : RunRecord → C → Type 0) (copy : Option CopyKept) (found : Option (CopyRecord C)) → IsCopyFrom Of copy found → is_some found ≡ is_some copy
found_so Of None None from = refl
found_so Of (Some copy) (Some found) from = refl
found_so Of None (Some found) from = absurd from
found_so Of (Some copy) None from = absurd from

-- what a mode keeps
by_mode : (mode : Mode) (script : Script) (kept : RunRecord) (copy : Option CopyKept) → RanAs mode script kept copy → is_some copy ≡ (is_copy (form_of mode) && is_some (kept_in mode kept))
by_mode Serial script kept copy ran = ap is_some ran.0
by_mode Race script kept copy ran = ap is_some ran.0
by_mode Gen script kept copy ran = ap is_some ran.0
by_mode Compare script kept copy ran = ap is_some ran.0
by_mode Check script kept copy ran = absurd ran
by_mode Copy script kept copy ran = into script.target copy ran
  where
    into : (target : Option Target) (copy : Option CopyKept) → RanInto target script kept copy → is_some copy ≡ true
    into (Some target) (Some copy) ran = refl
    into (Some target) None ran = absurd ran
    into None copy ran = absurd ran

of_run : {A : Type 0} (b : Bool) → MatchBool b ⊥ A → A
of_run true so = absurd so
of_run false so = so

none_kept : (b : Bool) → false ≡ (b && false)
none_kept true = refl
none_kept false = refl

module _ (words : List (List ℕ)) (left rest : Option (List ℕ)) (rose : Type 0) where
  abbrev copies : Bool
  copies = is_copy (form_of (mode_of words))

  by : (ending : Ending) → HasCause RanAs IsSaid words left rest rose ending → is_some (copy_of ending) ≡ (copies && is_some (kept_of ending))
  by BadWords cause = none_kept copies
  by ReadFault cause = none_kept copies
  by TooLong cause = none_kept copies
  by (Faulty line why) cause = none_kept copies
  by (Refused why) cause = none_kept copies
  by (Unfit why) cause = none_kept copies
  by OutOfMemory cause = none_kept copies
  by Undivided cause = none_kept copies
  by (Told said) cause = none_kept copies
  by (Ran asked script kept copy) cause =
      let ran = of_run (judges (mode_of words)) (cause.1.2) in
      by_mode (mode_of words) _ kept copy (ran.3)
      ∙ ap (λ (a : Asked). copies && is_some (kept_in a.mode kept)) (sym (ran.0))

pub keeps_copies : KeepsCopies
keeps_copies words left rest read_faults read_then before after write_faults written_then finish finishes =
    found_so _ (copy_of finishes.ending) finish.copy finishes.ends.copy
    ∙ by words left rest (Rose read_faults read_then) finishes.ending finishes.cause
    ∙ ap (λ (k : Option RunRecord). copies words left rest (Rose read_faults read_then) && is_some k) (sym finishes.ends.kept)
