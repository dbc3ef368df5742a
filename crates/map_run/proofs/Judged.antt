-- What the status of a run in mode `check` tells of its report.
use Rattle.std.proofs.Common.{◌≡◌, ◌≢◌, ℕ, List, Option, Some, None, refl, sym, ◌∙◌, subst, ⊎_elim}
use Rattle.std.specs.Prelude.{MatchBool}
use Rattle.record_flaws.specs.declared.verdict.Said.TheVariants.{Unread, Judged}
use Rattle.record_flaws.specs.declared.verdict.Verdict.TheVariants.{Yes, No}
use Rattle.run_ends.specs.SourceReads.{Rose}
use Rattle.run_ends.specs.Writes.{Written, AddsPrefix, AddsWhole}
use Rattle.run_words.specs.declared.words.Mode.{Mode}
use Rattle.run_words.specs.declared.words.Mode.TheVariants.{Check}
use Rattle.run_words.specs.Words.{asked_of, mode_of}
use Rattle.run_endings.specs.Finish.{Ending, BadWords, ReadFault, TooLong, Faulty, Refused, Unfit, OutOfMemory, Ran, Undivided, Told, HasCause, HasInput, HasReport, HasScript, IsDelivered, judges, kept_of, status_of, text_due}
use Rattle.map_run.specs.Finish.{RanAs}
use Rattle.map_run.specs.Judged.{EndsWithYes, IsYes}
use Rattle.record_check.specs.Said.{IsSaid}

four : ◌≡◌ {A = ℕ} 0 4 → ⊥
four is = cc

-- another status was delivered
another : (before after : Option Written) {wrote : Type 0} (due : ℕ) (text : List ℕ) → 0 ≢ due → IsDelivered due text 0 before after wrote → ⊥
another before after {wrote} due text other =
    ⊎_elim (λ (told : (0 ≡ due) × AddsWhole before after text). other told.0) (λ (told : (0 ≡ 4) × AddsPrefix before after text × wrote). four told.0)

module _ (words : List (List ℕ)) (check : mode_of words ≡ Check) (input : List ℕ) (rest : Option (List ℕ)) (read wrote : Type 0) (before after : Option Written) where
  report : (all : List ℕ) (ending : Ending) → HasInput RanAs IsSaid (asked_of words) all ending → HasReport IsSaid all ending
  report all ending = subst (λ (mode : Mode). MatchBool (judges mode) (HasReport IsSaid all ending) (HasScript RanAs (asked_of words) all ending)) check

  yes_by : (ending : Ending) → HasCause RanAs IsSaid words (Some input) rest read ending → IsDelivered (status_of ending) (text_due ending) 0 before after wrote → IsYes input before after × (kept_of ending ≡ None)
  yes_by BadWords cause told = absurd (another before after 2 (text_due BadWords) (λ is. cc) told)
  yes_by ReadFault cause told = absurd (another before after 3 (text_due ReadFault) (λ is. cc) told)
  yes_by TooLong cause told = absurd (another before after 7 (text_due TooLong) (λ is. cc) told)
  yes_by (Faulty line why) cause told = absurd (another before after 1 (text_due (Faulty line why)) (λ is. cc) told)
  yes_by (Refused why) cause told = absurd (another before after 6 (text_due (Refused why)) (λ is. cc) told)
  yes_by (Unfit why) cause told = absurd (another before after 11 (text_due (Unfit why)) (λ is. cc) told)
  yes_by OutOfMemory cause told = absurd (another before after 5 (text_due OutOfMemory) (λ is. cc) told)
  yes_by (Ran asked script kept copy) cause told = absurd (report (cause.1.0) (Ran asked script kept copy) (cause.1.2))
  yes_by Undivided cause told = absurd (another before after 10 (text_due Undivided) (λ is. cc) told)
  yes_by (Told (Unread line)) cause told = absurd (another before after 10 (text_due (Told (Unread line))) (λ is. cc) told)
  yes_by (Told (Judged (No flaw))) cause told = absurd (another before after 9 (text_due (Told (Judged (No flaw)))) (λ is. cc) told)
  yes_by (Told (Judged Yes)) cause told =
      let of = report (cause.1.0) (Told (Judged Yes)) (cause.1.2) in
      let text = text_due (Told (Judged Yes)) in
      let written : AddsWhole before after text =
      ⊎_elim (λ (told : (0 ≡ 0) × AddsWhole before after text). told.1) (λ (told : (0 ≡ 4) × AddsPrefix before after text × wrote). absurd (four told.0)) told in
      (subst (λ (bytes : List ℕ). IsYes bytes before after) (sym (cause.1.1.all.0)) (record { divided = of.0; script = of.1.0; is_read = of.1.1; said = of.1.2; written = written }), refl)

pub ends_with_yes : EndsWithYes
ends_with_yes words input rest read_faults read_then before after write_faults written_then finish check status finishes =
    let by = yes_by words check input rest (Rose read_faults read_then) (Rose write_faults written_then) before after finishes.ending finishes.cause
    (subst (λ (n : ℕ). IsDelivered (status_of finishes.ending) (text_due finishes.ending) n before after (Rose write_faults written_then)) status finishes.ends.delivered) in
    (by.0, finishes.ends.kept ∙ by.1)
