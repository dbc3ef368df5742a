-- Where the numbers of the calls never fall along any strand, those of a CPU's turns in a phase don't fall as the tickets rise.
use Rattle.std.proofs.Common.{◌≡◌, inl, inr, ℕ, suc, ◌≤◌, List, [], ◌∷◌, ◌++◌, Option, None, Some, ap, sym, ◌∙◌, subst, arith}
use Rattle.std.specs.Prelude.{option_map, option_to_list, slice_get, unwrap_or}
use Rattle.map_script.specs.declared.script.Script.{Script}
use Rattle.map_script.specs.WellFormed.{IsWellFormed}
use Rattle.place_words.specs.declared.history.Entry.{Entry}
use Rattle.place_words.specs.declared.history.LockHistory.{LockHistory}
use Rattle.place_words.specs.declared.history.Strand.{Strand}
use Rattle.place_words.specs.declared.history.StrandStep.{StrandStep}
use Rattle.place_words.specs.Interleaving.{Drawn, tickets_of}
use Rattle.place_words.specs.Phases.{phase_of}
use Rattle.place_words.specs.Tickets.{AreTicketed, AscendIn}
use Rattle.map_report.specs.declared.record.RunRecord.{RunRecord}
use Rattle.map_report.specs.Record.{has_cpu}
use Rattle.record_shape.specs.WellShaped.{WellShaped}
use Rattle.turn_order.specs.Ordered.{ordered}
use Rattle.turn_order.specs.OrderLaws.{turn_count}
use Rattle.turn_order.proofs.InOrder.{ascend_filter, ticket_from}
use Rattle.turn_order.proofs.Members.{IsAmong}
use Rattle.turn_order.proofs.TicketOrder.{all_ordered, ordered_ascend}
use Rattle.call_check.proofs.StepTurns.{drawn_by}
use Rattle.call_check.proofs.StrandOrder.{in_strand}
use Rattle.call_check.specs.RightCalls.{call_named}
use Rattle.call_check.proofs.Concatenated.{Rises}
use Rattle.call_check.proofs.KnownTurns.{HasStrands, StrandIs, all_its, fits, has_its, strand_at}
use Rattle.call_check.proofs.PhaseCalls.{number_phase}
use Rattle.call_check.proofs.PhaseMoments.{CallsRise}

-- the numbers of the calls of turns never fall
abbrev TurnsRise : ℕ → List Drawn → Type 0
TurnsRise from [] = Unit {0}
TurnsRise from (x ∷ xs) = (from ≤ x.entry.call) × TurnsRise x.entry.call xs

rise_lower : (low from : ℕ) (xs : List Drawn) → low ≤ from → TurnsRise from xs → TurnsRise low xs
rise_lower low from [] less rise = tt
rise_lower low from (x ∷ xs) less rise = let least : from ≤ x.entry.call = rise.0 in (omega (arith, least, less), rise.1)

rise_member : (from : ℕ) (xs : List Drawn) → TurnsRise from xs → (x : Drawn) → IsAmong x xs → from ≤ x.entry.call
rise_member from [] rise x there = absurd there
rise_member from (y ∷ xs) rise x (inl same) = subst (λ (w : Drawn). from ≤ w.entry.call) same rise.0
rise_member from (y ∷ xs) rise x (inr later) =
    let least : from ≤ y.entry.call = rise.0 in
    let rest = rise_member y.entry.call xs rise.1 x later in omega (arith, least, rest)

-- so of two turns whose tickets ascend
of_two : (from low : ℕ) (xs : List Drawn) (to : ℕ) → TurnsRise low xs → AscendIn from (tickets_of xs) to → (x y : Drawn) → IsAmong x xs → IsAmong y xs → x.entry.ticket ≤ y.entry.ticket → x.entry.call ≤ y.entry.call
of_two from low [] to rise ascend x y one two least = absurd one
of_two from low (z ∷ xs) to rise ascend x y (inl first) (inl second) least =
    let here : z.entry.call ≡ x.entry.call = ap (λ (w : Drawn). w.entry.call) first in
    let there : z.entry.call ≡ y.entry.call = ap (λ (w : Drawn). w.entry.call) second in
    omega (arith, here, there)
of_two from low (z ∷ xs) to rise ascend x y (inl first) (inr two) least =
    let here : z.entry.call ≡ x.entry.call = ap (λ (w : Drawn). w.entry.call) first in
    let rest = rise_member z.entry.call xs rise.1 y two in
    omega (arith, here, rest)
of_two from low (z ∷ xs) to rise ascend x y (inr one) (inl second) least =
    let there : z.entry.ticket ≡ y.entry.ticket = ap (λ (w : Drawn). w.entry.ticket) second in
    absurd (let above = ticket_from (suc z.entry.ticket) xs to x ascend.1 one in omega (arith, above, there, least))
of_two from low (z ∷ xs) to rise ascend x y (inr one) (inr two) least = of_two (suc z.entry.ticket) z.entry.call xs to rise.1 ascend.1 x y one two least

-- what steps name rises as they do
drawn_rise : (histories : List LockHistory) (from : ℕ) (steps : List StrandStep) → Rises histories from steps → TurnsRise from (drawn_by histories steps)
drawn_rise histories from [] rises = tt
drawn_rise histories from (step ∷ steps) rises = by (slice_get (Rattle.place_words.specs.Named.entries_of histories step.lock) step.index) rises.0 (drawn_rise histories (call_named histories step) steps rises.1)
  where
    by : (o : Option Entry) → from ≤ unwrap_or (option_map (λ (entry : Entry). entry.call) o) 0 → TurnsRise (unwrap_or (option_map (λ (entry : Entry). entry.call) o) 0) (drawn_by histories steps)
        → TurnsRise from (option_to_list (option_map (λ (entry : Entry). record { lock = step.lock; entry = entry }) o) ++ drawn_by histories steps)
    by None least rest = rise_lower from 0 (drawn_by histories steps) least rest
    by (Some entry) least rest = (least, rest)

module _ (script : Script) (kept : RunRecord) (formed : IsWellFormed script) (well : WellShaped script kept) (ticketed : AreTicketed kept.histories kept.strands) (strands : HasStrands script kept)
    (rises : (n : ℕ) (strand : Strand) → slice_get kept.strands n ≡ Some strand → Rises kept.histories 0 strand.steps) where
  pub calls_rise : CallsRise script.cuts kept.histories
  calls_rise x y one two cpu phase least =
      by (strand_at script kept well ticketed strands (phase_of script.cuts x.entry.call) x.entry.cpu (number_phase script formed x.entry.call) (fits script kept well x one).cpu)
    where
      by : StrandIs kept (phase_of script.cuts x.entry.call) x.entry.cpu → x.entry.call ≤ y.entry.call
      by its =
          let strand : Strand = its.strand in
          let ascend : AscendIn 0 (tickets_of (drawn_by kept.histories strand.steps)) (turn_count kept.histories) =
          subst (λ (l : List Drawn). AscendIn 0 (tickets_of l) (turn_count kept.histories)) (sym (all_its script kept well ticketed strands its.place strand its.at))
          (ascend_filter (λ (drawn : Drawn). in_strand script.cuts strand.phase strand.cpus drawn.entry) 0 (ordered kept.histories) (turn_count kept.histories) (ordered_ascend kept.histories ticketed.each_once)) in
          of_two 0 0 (drawn_by kept.histories strand.steps) (turn_count kept.histories) (drawn_rise kept.histories 0 strand.steps (rises its.place strand its.at)) ascend x y
          (has_its script kept well ticketed strands its.place strand its.at x (all_ordered kept.histories ticketed.each_once x one) (sym its.phase_is) its.has)
          (has_its script kept well ticketed strands its.place strand its.at y (all_ordered kept.histories ticketed.each_once y two) (sym phase ∙ sym its.phase_is)
          (ap (λ (c : ℕ). has_cpu c strand.cpus) (sym cpu) ∙ its.has))
          least
