-- The turns of a record, in the order of their tickets, are a run of the core exactly where words allow them.
use Rattle.std.proofs.Common.{◌≡◌, ℕ, true, false, List, [], length, sym, subst, ⊎_elim}
use Rattle.std.proofs.lemmas.Bool.{cases_Bool}
use Rattle.map_types.specs.Shape.{HasBounds}
use Rattle.map_types.proofs.CreationLemmas.{bounds_of_shape}
use Rattle.map_script.specs.declared.script.Script.{Script}
use Rattle.map_script.specs.WellFormed.{IsWellFormed}
use Rattle.map_report.specs.declared.record.RunRecord.{RunRecord}
use Rattle.map_report.specs.Record.{IsRecord}
use Rattle.place_words.specs.Histories.{opening_content}
use Rattle.place_words.specs.Interleaving.{Event, AreEnabled, CoreRun}
use Rattle.place_words.specs.OpeningState.{opening}
use Rattle.core_runs.specs.Words.{words_of, RunsByWords}
use Rattle.turn_order.specs.Ordered.{interleaved_to, ordered}
use Rattle.turn_order.specs.OrderLaws.{turn_count}
use Rattle.turn_order.proofs.FirstEvents.{to_all}
use Rattle.turn_order.proofs.TicketOrder.{ordered_tickets}
use Rattle.step_check.specs.StepLaws.{AreMade}
use Rattle.step_check.specs.StepLaws as laws
use Rattle.step_check.proofs.TurnsJudged.{JudgedTo, judged_by, runs_judged}
use Rattle.step_check.proofs.Begun.{HaveOwnTickets, own_from_range}
use Rattle.step_check.proofs.First.{race_made, words_first}
use Rattle.step_check.proofs.InRecords.{are_in_order, on_locks, allow_along, run_enabled, run_of_ordered}
use Rattle.step_check.proofs.Judging.{judged_words, judged_apart}
use Rattle.step_check.proofs.LockSorts.{sorts_first}
use Rattle.step_check.proofs.PlainLinks.{links_turns_to}
use Rattle.step_check.proofs.RecordLocks.{record_once}
use Rattle.step_check.proofs.SharedDecided.{shared_decided}

abbrev AreJudged : Script → RunRecord → ℕ → Type 0
AreJudged script kept n = JudgedTo n script.shape (opening_content script.shape) [] (words_of (opening script.shape)) (ordered kept.histories)

module _ (script : Script) (kept : RunRecord) (record_is : IsRecord script kept) where
  pub own_tickets : HaveOwnTickets (ordered kept.histories)
  own_tickets = own_from_range (ordered kept.histories) 0 (turn_count kept.histories) (ordered_tickets kept.histories (record_once script kept record_is))

  pub run_made : CoreRun script.shape kept.histories → AreMade script kept (length (ordered kept.histories))
  run_made run = subst (λ (events : List Event). AreEnabled script.shape (opening script.shape) events) (sym (to_all script.shape (opening_content script.shape) [] (ordered kept.histories))) (run_enabled script kept record_is run)

  pub made_run : AreMade script kept (length (ordered kept.histories)) → CoreRun script.shape kept.histories
  made_run made = run_of_ordered script kept record_is (subst (λ (events : List Event). AreEnabled script.shape (opening script.shape) events) (to_all script.shape (opening_content script.shape) [] (ordered kept.histories)) made)

  module _ (bounds : HasBounds script.shape) (apart : script.shape.common ≡ false) where
    pub apart_judged : (n : ℕ) → AreMade script kept n → AreJudged script kept n
    apart_judged n made =
        judged_apart script.shape apart n (ordered kept.histories) (opening_content script.shape) [] (words_of (opening script.shape)) (sorts_first script.shape) (on_locks script kept record_is) (allow_along script kept record_is)
        (words_first bounds n (ordered kept.histories) made)

    pub apart_made : (n : ℕ) → AreJudged script kept n → AreMade script kept n
    apart_made n judged =
        let words : RunsByWords script.shape (words_of (opening script.shape)) (interleaved_to n script.shape (opening_content script.shape) [] (ordered kept.histories)) =
        judged_words script.shape n (ordered kept.histories) (opening_content script.shape) [] (words_of (opening script.shape)) judged in
        race_made bounds n (ordered kept.histories)
        (links_turns_to bounds apart n (ordered kept.histories) own_tickets (on_locks script kept record_is) (allow_along script kept record_is) (are_in_order script kept record_is) words) words

-- The first turns of a record may be made in the core exactly where words allow them.
turns_decide : (script : Script) (kept : RunRecord) → IsWellFormed script → IsRecord script kept → (n : ℕ) → (AreJudged script kept n → AreMade script kept n) × (AreMade script kept n → AreJudged script kept n)
turns_decide script kept well record_is n =
    let bounds : HasBounds script.shape = bounds_of_shape script.shape well.shape in
    ⊎_elim
    (λ (common : script.shape.common ≡ true).
    shared_decided bounds (bounds.common_evicts common) common (ordered kept.histories) (on_locks script kept record_is) (allow_along script kept record_is) (are_in_order script kept record_is) (own_tickets script kept record_is) n)
    (λ (apart : script.shape.common ≡ false). (apart_made script kept record_is bounds apart n, apart_judged script kept record_is bounds apart n))
    (cases_Bool script.shape.common)

pub words_decide : (script : Script) (kept : RunRecord) → IsWellFormed script → IsRecord script kept → (n : ℕ) → (laws.AreJudged script kept n → AreMade script kept n) × (AreMade script kept n → laws.AreJudged script kept n)
words_decide script kept well record_is n =
    let both = turns_decide script kept well record_is n in (
      λ run. both.0 (judged_by n script.shape (opening_content script.shape) [] (words_of (opening script.shape)) (ordered kept.histories) run.0 run.1),
      λ made. runs_judged n script.shape (opening_content script.shape) [] (words_of (opening script.shape)) (ordered kept.histories) (both.1 made),
    )
