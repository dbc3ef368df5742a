-- Each flaw shows that there is no record, or that its turns are no run. Where there is none, it is a record, and they are.
use Rattle.std.proofs.Common.{◌≡◌, ℕ, suc, List, Option, None, Some, length, get_or, ap, sym, ◌∙◌, subst}
use Rattle.std.specs.Prelude.{MatchOption}
use Rattle.std.proofs.lemmas.Option.{get_or_from_slice_get}
use Rattle.map_types.specs.declared.kind.DomainId.{DomainId}
use Rattle.map_script.specs.declared.script.Script.{Script}
use Rattle.map_script.specs.WellFormed.{IsWellFormed}
use Rattle.place_words.specs.declared.history.LockHistory.{LockHistory}
use Rattle.place_words.specs.declared.history.Strand.{Strand}
use Rattle.place_words.specs.declared.history.StrandStep.{StrandStep}
use Rattle.place_words.specs.Tickets.{AreTicketed}
use Rattle.map_report.specs.declared.record.RunRecord.{RunRecord}
use Rattle.map_report.specs.Record.{IsRecord}
use Rattle.replay_words.specs.Replays.{IsFirstFlaw}
use Rattle.record_shape.specs.WellShaped.{WellShaped}
use Rattle.record_flaws.specs.First.{IsFirstWrong}
use Rattle.record_flaws.specs.PhaseFlaws.{ArePhasesRight, IsRightPhase}
use Rattle.record_flaws.specs.StrandFlaws.{AreStrandsRight, IsRightPlace}
use Rattle.record_flaws.specs.declared.verdict.Flaw.TheVariants as flaws
use Rattle.record_flaws.specs.declared.verdict.Verdict.TheVariants.{Yes, No}
use Rattle.record_parts.proofs.OwnCalls.{records_have_their_strands}
use Rattle.record_parts.proofs.PhaseLaws.{phases_are_judged, records_have_their_phases}
use Rattle.record_parts.proofs.StrandLaws.{strands_are_judged}
use Rattle.record_order.specs.Tickets as tickets
use Rattle.record_order.proofs.Named.{names_entries}
use Rattle.record_check.specs.Replayed.{IsHistoryFlaw}
use Rattle.record_check.proofs.Laws.{flaw_refutes_record}
use Rattle.turn_order.specs.Ordered.{ordered}
use Rattle.step_check.specs.Refused.{FirstRefused, IsJudged}
use Rattle.step_check.proofs.StepRuns.{made_run, run_made, words_decide}
use Rattle.call_check.specs.RightCalls.{IsRightAt}
use Rattle.record_check.specs.Flaws.{AreCallsRight, AreFinalsRight, AreLegal}
use Rattle.record_check.specs.Verdicts.{IsVerdict}
use Rattle.call_check.proofs.MakesRecord.{makes_record}
use Rattle.call_check.proofs.RecordCalls.{last_spares, right_at}

module _ (script : Script) (kept : RunRecord) where
  -- of the turn that is told, where the histories are read
  pub history_flaw : {lock : DomainId} {told : ℕ} (histories : List LockHistory) (place number index : ℕ) (read : LockHistory) → histories ≡ kept.histories → place ≡ number
      → lock ≡ (get_or histories place read).lock → told ≡ index → IsHistoryFlaw script.shape kept.histories number index → IsVerdict script kept (No (flaws.History lock told))
  history_flaw {lock} {told} histories place number index read same is_place is_lock is_told flaw =
      let there : get_or histories place read ≡ flaw.history =
      ap (λ (hs : List LockHistory). get_or hs place read) same
      ∙ (ap (λ (n : ℕ). get_or kept.histories n read) is_place ∙ get_or_from_slice_get kept.histories number flaw.history read flaw.there) in
      let its_lock : flaw.history.lock ≡ lock = sym (is_lock ∙ ap (λ (h : LockHistory). h.lock) there) in (
        record {
          place = number;
          history = flaw.history;
          there = flaw.there;
          lock_is = its_lock;
          before = flaw.before;
          first = subst (λ (l : DomainId). IsFirstFlaw script.shape l flaw.history.entries told) its_lock
              (subst (λ (n : ℕ). IsFirstFlaw script.shape flaw.history.lock flaw.history.entries n) (sym is_told) flaw.first);
        },
        λ is. flaw_refutes_record script kept number index flaw is.0,
      )

  module _ (formed : IsWellFormed script) (shaped : WellShaped script kept) where
    pub phases_right : IsFirstWrong (IsRightPhase script kept) (length kept.phases) None → ArePhasesRight script kept
    phases_right right = (phases_are_judged script kept formed.phases shaped.phases).0 right

    pub strands_right : IsFirstWrong (IsRightPlace script kept) (suc (length kept.strands)) None → AreStrandsRight script kept
    strands_right right = (strands_are_judged script kept shaped.strands).0 right

    module _ (legal : AreLegal script kept.histories) where
      pub phase_flaw : (phase : ℕ) → IsFirstWrong (IsRightPhase script kept) (length kept.phases) (Some phase) → IsVerdict script kept (No (flaws.Phase phase))
      phase_flaw phase first =
          ((legal, first), λ is. first.1 ((phases_are_judged script kept formed.phases shaped.phases).1 (records_have_their_phases script kept is.0) phase))

      module _ (phases : ArePhasesRight script kept) where
        pub strand_flaw : (index : ℕ) → IsFirstWrong (IsRightPlace script kept) (suc (length kept.strands)) (Some index) → IsVerdict script kept (No (flaws.Strand index))
        strand_flaw index first =
            ((legal, phases, first), λ is. first.1 ((strands_are_judged script kept shaped.strands).1 (records_have_their_strands script kept formed shaped is.0) index))

        module _ (strands : AreStrandsRight script kept) where
          pub call_flaw : (place number : ℕ) → number ≡ suc place → IsFirstWrong (IsRightAt script kept) (length script.calls) (Some place) → IsVerdict script kept (No (flaws.Call number))
          call_flaw place number is_number first =
              ((legal, phases, strands, (place, is_number, first)), λ is. first.1 (right_at script kept formed shaped is.0 place first.0))

          module _ (calls : AreCallsRight script kept) where
            finals_of : IsRecord script kept → AreFinalsRight script kept
            finals_of is = record { contents = is.contents; whole = record { spares = λ cpu _. last_spares script kept formed shaped is cpu; finals = is.finals } }

            pub finals_flaw : (AreFinalsRight script kept → ⊥) → IsVerdict script kept (No flaws.Finals)
            finals_flaw wrong = ((legal, phases, strands, calls, wrong), λ is. wrong (finals_of is.0))

            module _ (finals : AreFinalsRight script kept) where
              pub ticket_flaw : (place : StrandStep) → tickets.IsFirstFlaw kept.histories kept.strands place → (AreTicketed kept.histories kept.strands → ⊥)
                  → IsVerdict script kept (No (flaws.Ticket place.lock place.index))
              ticket_flaw place first refuted = ((legal, phases, strands, calls, finals, first), λ is. refuted is.0.tickets)

              pub of_run : AreTicketed kept.histories kept.strands → IsRecord script kept
              of_run ticketed =
                  makes_record script kept formed shaped
                  (record { histories = legal; phases = phases; strands = strands; calls = calls; contents = finals.contents; finals = finals.whole.finals; spares = finals.whole.spares }) ticketed

  pub names_read : WellShaped script kept → AreStrandsRight script kept → (histories : List LockHistory) (strands : List Strand) → histories ≡ kept.histories → strands ≡ kept.strands
      → tickets.NamesEntries script.shape histories strands
  names_read shaped right histories strands same same_strands =
      subst (λ (hs : List LockHistory). tickets.NamesEntries script.shape hs strands) (sym same)
      (subst (λ (ss : List Strand). tickets.NamesEntries script.shape kept.histories ss) (sym same_strands) (names_entries script kept shaped right.steps))

  -- what is said of tickets, where histories and strands are read
  abbrev TicketsTold : List LockHistory → List Strand → Option StrandStep → Type 0
  TicketsTold histories strands flaw =
      MatchOption flaw (AreTicketed histories strands) (λ (place : StrandStep). tickets.IsFirstFlaw histories strands place × (AreTicketed histories strands → ⊥))

  pub tickets_read : (histories : List LockHistory) (strands : List Strand) (flaw told : Option StrandStep) → histories ≡ kept.histories → strands ≡ kept.strands → flaw ≡ told
      → TicketsTold histories strands flaw → TicketsTold kept.histories kept.strands told
  tickets_read histories strands flaw told same same_strands is answer =
      subst (λ (hs : List LockHistory). TicketsTold hs kept.strands told) same
      (subst (λ (ss : List Strand). TicketsTold histories ss told) same_strands (subst (λ (o : Option StrandStep). TicketsTold histories strands o) is answer))

  pub steps_read : (histories : List LockHistory) (flaw told : Option ℕ) → histories ≡ kept.histories → flaw ≡ told
      → FirstRefused script.shape (ordered histories) flaw × IsJudged script.shape (ordered histories) flaw
      → FirstRefused script.shape (ordered kept.histories) told × IsJudged script.shape (ordered kept.histories) told
  steps_read histories flaw told same is answer =
      subst (λ (hs : List LockHistory). FirstRefused script.shape (ordered hs) told × IsJudged script.shape (ordered hs) told) same
      (subst (λ (o : Option ℕ). FirstRefused script.shape (ordered histories) o × IsJudged script.shape (ordered histories) o) is answer)

  module _ (formed : IsWellFormed script) (is : IsRecord script kept) where
    pub step_flaw : (ticket : ℕ) → FirstRefused script.shape (ordered kept.histories) (Some ticket) → IsJudged script.shape (ordered kept.histories) (Some ticket)
        → IsVerdict script kept (No (flaws.Step ticket))
    step_flaw ticket first judged = (
      (
        is,
        record {
          drawn = first.0;
          before = (words_decide script kept formed is ticket).0 first.1;
          refused = λ made. first.2 ((words_decide script kept formed is (suc ticket)).1 made);
        },
      ),
      λ all. judged ((words_decide script kept formed is (length (ordered kept.histories))).1 (run_made script kept is all.1)),
    )

    pub all_run : FirstRefused script.shape (ordered kept.histories) None → IsVerdict script kept Yes
    all_run run = (is, made_run script kept is ((words_decide script kept formed is (length (ordered kept.histories))).0 run))
