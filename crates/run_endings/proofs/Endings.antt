-- A run's ending, put together of what was before its script ran or its report was judged and what came of that.
use Rattle.std.proofs.Common.{◌≡◌, ℕ, Bool, true, false, List, Option, None, Some, Result, refl, ap, sym, ◌∙◌, subst, ⊎_elim}
use Rattle.std.specs.Prelude.{IfOk, IfSome, MatchBool}
use Rattle.map_script.specs.declared.script.Script.{Script}
use Rattle.map_types.specs.declared.refusal.NoMemory.{NoMemory}
use Rattle.map_report.specs.declared.record.RunRecord.{RunRecord}
use Rattle.record_flaws.specs.declared.verdict.Said.{Said}
use Rattle.run_ends.specs.Writes.{Written}
use Rattle.run_words.specs.declared.words.Asked.{Asked}
use Rattle.run_words.specs.declared.words.Mode.{Mode}
use Rattle.run_words.specs.declared.words.Mode.TheVariants.{Serial, Race, Gen, Compare, Check, Copy}
use Rattle.run_words.specs.Words.{asked_of}
use Rattle.run_endings.specs.declared.finish.Due.{Due}
use Rattle.run_endings.specs.declared.finish.Task.TheVariants.{Run, Judge}
use Rattle.run_endings.specs.declared.judging.Claim.{Claim}
use Rattle.run_endings.specs.declared.record.CopyRecord.{CopyRecord}
use Rattle.run_endings.specs.declared.record.Finish.{Finish}
use Rattle.run_endings.specs.Finish.{Ending, BadWords, ReadFault, TooLong, Faulty, Refused, Unfit, OutOfMemory, Ran, Undivided, Told, CopyKept, Finishes, HasCause, HasInput, HasReport, HasScript, IsCopyFrom, IsKeptFrom, IsDelivered, copy_kept, judges, kept_in, out, script_run, status_of, text_due}
use Rattle.run_endings.specs.Runs.{NeverRan, NeverSaid, IsTask, EndsEarly, EndsJudged, EndsKept, EndsOutOfMemory, EndsRun, EndsSaid}
use Rattle.run_endings.proofs.Beginnings.{up_to_input}

kept_so : {C : Type 0} (IsCopyOf : RunRecord → C → Type 0) (mode : Mode) (kept : Option RunRecord) (closed : Option C) (one : RunRecord) (left : C)
    → kept ≡ kept_in mode one → closed ≡ kept_in mode left → IsCopyOf one left → IsKeptFrom IsCopyOf kept closed
kept_so {C} IsCopyOf mode kept closed one left kept_is closed_is copy =
    subst (λ (z : Option RunRecord × Option C). IsKeptFrom IsCopyOf z.0 z.1) (λ i. (sym kept_is i, sym closed_is i)) (by mode)
  where
    by : (m : Mode) → IsKeptFrom IsCopyOf (kept_in m one) (kept_in m left)
    by Serial = copy
    by Race = copy
    by Gen = copy
    by Compare = tt
    by Check = tt
    by Copy = copy

-- what is kept of a copy whose target's record is one of what the target left
copy_so : {C : Type 0} (IsCopyOf : RunRecord → C → Type 0) (found : Option (CopyRecord C)) → IfSome found (λ copy. IsCopyOf copy.target copy.closed) → IsCopyFrom IsCopyOf (copy_kept found) found
copy_so IsCopyOf None copy = tt
copy_so IsCopyOf (Some found) copy = (refl, refl, copy)

no_copy_so : {C : Type 0} (IsCopyOf : RunRecord → C → Type 0) (found : Option (CopyRecord C)) → found ≡ None → IsCopyFrom IsCopyOf None found
no_copy_so {C} IsCopyOf found is = subst (λ (z : Option (CopyRecord C)). IsCopyFrom IsCopyOf None z) (sym is) tt

none_so : {C : Type 0} (IsCopyOf : RunRecord → C → Type 0) (kept : Option RunRecord) (closed : Option C) → kept ≡ None → closed ≡ None → IsKeptFrom IsCopyOf kept closed
none_so {C} IsCopyOf kept closed kept_is closed_is = subst (λ (z : Option RunRecord × Option C). IsKeptFrom IsCopyOf z.0 z.1) (λ i. (sym kept_is i, sym closed_is i)) tt

module _ (RanAs : Mode → Script → RunRecord → Option CopyKept → Type 0) (IsSaid : Script → List ℕ → Said → Type 0) where
  -- what has its cause where nothing ran and nothing was said, has it whatever runs and whatever is said
  of_input : (asked : Asked) (input : List ℕ) (ending : Ending) → HasInput NeverRan NeverSaid asked input ending → HasInput RanAs IsSaid asked input ending
  of_input asked input ending = by (judges asked.mode)
    where
      report : (ending : Ending) → HasReport NeverSaid input ending → HasReport IsSaid input ending
      report BadWords cause = cause
      report ReadFault cause = cause
      report TooLong cause = cause
      report (Faulty line why) cause = cause
      report (Refused why) cause = cause
      report (Unfit why) cause = cause
      report OutOfMemory cause = cause
      report (Ran was_asked script kept copy) cause = absurd cause
      report Undivided cause = cause
      report (Told said) cause = absurd (cause.1.2)

      text : (ending : Ending) → HasScript NeverRan asked input ending → HasScript RanAs asked input ending
      text BadWords cause = cause
      text ReadFault cause = cause
      text TooLong cause = cause
      text (Faulty line why) cause = cause
      text (Refused why) cause = cause
      text (Unfit why) cause = cause
      text OutOfMemory cause = cause
      text (Ran was_asked script kept copy) cause = absurd (cause.3)
      text Undivided cause = absurd cause
      text (Told said) cause = absurd cause

      by : (b : Bool) → MatchBool b (HasReport NeverSaid input ending) (HasScript NeverRan asked input ending) → MatchBool b (HasReport IsSaid input ending) (HasScript RanAs asked input ending)
      by true = report ending
      by false = text ending

  at_script : (asked : Asked) (input : List ℕ) (ending : Ending) → judges asked.mode ≡ false → HasScript RanAs asked input ending → HasInput RanAs IsSaid asked input ending
  at_script asked input ending runs cause = subst (λ (b : Bool). MatchBool b (HasReport IsSaid input ending) (HasScript RanAs asked input ending)) (sym runs) cause

  at_report : (asked : Asked) (input : List ℕ) (ending : Ending) → judges asked.mode ≡ true → HasReport IsSaid input ending → HasInput RanAs IsSaid asked input ending
  at_report asked input ending is cause = subst (λ (b : Bool). MatchBool b (HasReport IsSaid input ending) (HasScript RanAs asked input ending)) (sym is) cause

module _ {C : Type 0} (IsCopyOf : RunRecord → C → Type 0) (RanAs : Mode → Script → RunRecord → Option CopyKept → Type 0) (IsSaid : Script → List ℕ → Said → Type 0) (words : List (List ℕ)) {left after : Option (List ℕ)} {read : Type 0} {before now : Option Written} {wrote : Type 0} where
  early : (status : ℕ) (ending : Ending) → HasCause NeverRan NeverSaid words left after read ending → IsDelivered (status_of ending) (text_due ending) status before now wrote
      → Finishes IsCopyOf (HasCause RanAs IsSaid words left after read) before now wrote (record { status = status; kept = None; closed = None; copy = None })
  early status BadWords cause delivered = record { ending = BadWords; cause = cause; ends = record { kept = refl; closed = tt; copy = tt; delivered = delivered } }
  early status ReadFault cause delivered = record { ending = ReadFault; cause = cause; ends = record { kept = refl; closed = tt; copy = tt; delivered = delivered } }
  early status TooLong cause delivered = record { ending = TooLong; cause = cause; ends = record { kept = refl; closed = tt; copy = tt; delivered = delivered } }
  early status (Faulty line why) cause delivered = record { ending = Faulty line why; cause = (cause.0, (cause.1.0, cause.1.1, of_input RanAs IsSaid (asked_of words) (cause.1.0) (Faulty line why) (cause.1.2))); ends = record { kept = refl; closed = tt; copy = tt; delivered = delivered } }
  early status (Refused why) cause delivered = record { ending = Refused why; cause = (cause.0, (cause.1.0, cause.1.1, of_input RanAs IsSaid (asked_of words) (cause.1.0) (Refused why) (cause.1.2))); ends = record { kept = refl; closed = tt; copy = tt; delivered = delivered } }
  early status (Unfit why) cause delivered = record { ending = Unfit why; cause = (cause.0, (cause.1.0, cause.1.1, of_input RanAs IsSaid (asked_of words) (cause.1.0) (Unfit why) (cause.1.2))); ends = record { kept = refl; closed = tt; copy = tt; delivered = delivered } }
  early status OutOfMemory cause delivered = record { ending = OutOfMemory; cause = cause; ends = record { kept = refl; closed = tt; copy = tt; delivered = delivered } }
  early status (Ran asked script kept copy) cause delivered = absurd (never_ran (judges (asked_of words).mode) (cause.1.2))
    where
      never_ran : (b : Bool) → MatchBool b ⊥ (HasScript NeverRan (asked_of words) (cause.1.0) (Ran asked script kept copy)) → ⊥
      never_ran true so = so
      never_ran false so = so.3
  early status Undivided cause delivered = record { ending = Undivided; cause = (cause.0, (cause.1.0, cause.1.1, of_input RanAs IsSaid (asked_of words) (cause.1.0) Undivided (cause.1.2))); ends = record { kept = refl; closed = tt; copy = tt; delivered = delivered } }
  early status (Told said) cause delivered = record { ending = Told said; cause = (cause.0, (cause.1.0, cause.1.1, of_input RanAs IsSaid (asked_of words) (cause.1.0) (Told said) (cause.1.2))); ends = record { kept = refl; closed = tt; copy = tt; delivered = delivered } }

  -- It ended early.
  pub ends_early : {status : ℕ} → EndsEarly (HasCause NeverRan NeverSaid words left after read) before now wrote status
      → Finishes IsCopyOf (HasCause RanAs IsSaid words left after read) before now wrote (record { status = status; kept = None; closed = None; copy = None })
  ends_early {status} is = early status is.ending is.cause is.delivered

  -- The script that was due ran, as the mode asks, and what is kept is a copy of what its map left, and of a copy what its target left.
  pub ends_run : {due : Due} {ran : Result (RunRecord × C × Option (CopyRecord C)) NoMemory} {finish : Finish C} → IsTask words left after (Run due) → IfOk ran (λ kept. RanAs due.asked.mode due.script kept.0 (copy_kept kept.2)) → IfOk ran (λ kept. IsCopyOf kept.0 kept.1)
      → IfOk ran (λ kept. IfSome kept.2 (λ copy. IsCopyOf copy.target copy.closed)) → EndsRun due ran before now wrote finish → Finishes IsCopyOf (HasCause RanAs IsSaid words left after read) before now wrote finish
  ends_run {due} {ran} {finish} is ran_as closed_as copied_as =
      let runs : judges (asked_of words).mode ≡ false = is.1.0 in
      let input = is.1.1.0 in
      let input_is = is.1.1.1 in
      let of = is.1.1.2 in
      ⊎_elim
      (λ (kept : EndsKept due ran before now wrote finish).
      let as_due : RanAs due.asked.mode due.script kept.kept (copy_kept kept.copy) = subst (λ (z : Result (RunRecord × C × Option (CopyRecord C)) NoMemory). IfOk z (λ x. RanAs due.asked.mode due.script x.0 (copy_kept x.2))) kept.ran_is ran_as in
      let due_is : (due.asked, due.script) ≡ (asked_of words, script_run (asked_of words).mode of.read) = λ i. (of.asked_is i, of.script_is i) in
      record {
        ending = Ran (asked_of words) of.read kept.kept (copy_kept kept.copy);
        cause = (is.0, (input, input_is, at_script RanAs IsSaid (asked_of words) input (Ran (asked_of words) of.read kept.kept (copy_kept kept.copy)) runs (refl, of.is_read, of.fits, subst (λ (z : Asked × Script). RanAs z.0.mode z.1 kept.kept (copy_kept kept.copy)) due_is as_due)));
        ends = record {
          kept = kept.kept_is ∙ ap (λ (a : Asked). kept_in a.mode kept.kept) of.asked_is;
          closed = kept_so IsCopyOf due.asked.mode finish.kept finish.closed kept.kept kept.closed kept.kept_is kept.closed_is (subst (λ (z : Result (RunRecord × C × Option (CopyRecord C)) NoMemory). IfOk z (λ x. IsCopyOf x.0 x.1)) kept.ran_is closed_as);
          copy =
              let copied : IfSome kept.copy (λ copy. IsCopyOf copy.target copy.closed) =
              subst (λ (z : Result (RunRecord × C × Option (CopyRecord C)) NoMemory). IfOk z (λ x. IfSome x.2 (λ copy. IsCopyOf copy.target copy.closed))) kept.ran_is copied_as in
              subst (λ (z : Option (CopyRecord C)). IsCopyFrom IsCopyOf (copy_kept kept.copy) z) (sym kept.copy_is) (copy_so IsCopyOf kept.copy copied);
          delivered = subst (λ (z : Asked × Script). IsDelivered 0 (out z.0 z.1 kept.kept (copy_kept kept.copy)) finish.status before now wrote) due_is kept.delivered;
        };
      })
      (λ (none : EndsOutOfMemory before now wrote finish). record {
        ending = OutOfMemory;
        cause = up_to_input left after input input_is;
        ends = record { kept = none.kept; closed = none_so IsCopyOf finish.kept finish.closed none.kept none.closed; copy = no_copy_so IsCopyOf finish.copy none.copy; delivered = none.delivered };
      })

  -- The report that was due was judged, so that of its script this is said.
  pub ends_judged : {claim : Claim} {judged : Result Said NoMemory} {finish : Finish C} → IsTask words left after (Judge claim) → IfOk judged (IsSaid claim.script claim.report.items)
      → EndsJudged judged before now wrote finish → Finishes IsCopyOf (HasCause RanAs IsSaid words left after read) before now wrote finish
  ends_judged {claim} {judged} {finish} is said_of =
      let is_judged : judges (asked_of words).mode ≡ true = is.1.0 in
      let input = is.1.1.0 in
      let input_is = is.1.1.1 in
      let of = is.1.1.2 in
      ⊎_elim
      (λ (said : EndsSaid judged before now wrote finish).
      let of_claim : IsSaid claim.script claim.report.items said.said = subst (λ (z : Result Said NoMemory). IfOk z (IsSaid claim.script claim.report.items)) said.said_is said_of in
      record {
        ending = Told said.said;
        cause = (is.0, (input, input_is, at_report RanAs IsSaid (asked_of words) input (Told said.said) is_judged (of.divided, (claim.script, of.is_read, subst (λ (bytes : List ℕ). IsSaid claim.script bytes said.said) of.report_is of_claim))));
        ends = record {
          kept = said.kept;
          closed = none_so IsCopyOf finish.kept finish.closed said.kept said.closed;
          copy = no_copy_so IsCopyOf finish.copy said.copy;
          delivered = said.delivered;
        };
      })
      (λ (none : EndsOutOfMemory before now wrote finish). record {
        ending = OutOfMemory;
        cause = up_to_input left after input input_is;
        ends = record { kept = none.kept; closed = none_so IsCopyOf finish.kept finish.closed none.kept none.closed; copy = no_copy_so IsCopyOf finish.copy none.copy; delivered = none.delivered };
      })
