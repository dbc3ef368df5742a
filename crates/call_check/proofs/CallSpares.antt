-- The spares of CPUs from call to call: that of a call's CPU goes on by its turns, and others stay.
use Rattle.std.proofs.Common.{◌≡◌, ◌≢◌, ℕ, zero, suc, ◌+◌, Bool, true, false, cond, eqb, List, [], length, map, Option, Some, refl, ap, sym, ◌∙◌, subst, arith}
use Rattle.std.specs.Prelude.{slice_get}
use Rattle.std.proofs.lemmas.Bool.{eqb-true, ne_eqb}
use Rattle.map_types.specs.Kind.{is_lru}
use Rattle.map_types.specs.declared.call.Call.{Call}
use Rattle.map_script.specs.declared.script.Script.{Script}
use Rattle.place_words.specs.Interleaving.{Drawn}
use Rattle.place_words.specs.Tickets.{AreTicketed}
use Rattle.place_words.specs.Walks.{spare_left}
use Rattle.map_report.specs.declared.record.RunRecord.{RunRecord}
use Rattle.map_report.specs.Serial.{opening}
use Rattle.map_report.specs.Turns.{spare_at}
use Rattle.record_shape.specs.WellShaped.{WellShaped}
use Rattle.turn_order.specs.Ordered.{ordered}
use Rattle.turn_order.proofs.Members.{IsAmong, filter_among}
use Rattle.turn_order.proofs.TicketOrder.{ordered_all}
use Rattle.call_check.proofs.PlacedTurns.{at_of}
use Rattle.call_check.proofs.BelowTicket.{drawn_of, none_among}
use Rattle.call_check.proofs.KnownTurns.{fits, low}
use Rattle.call_check.proofs.SparesInOrder.{by_other, by_own, spare_by}

-- each entry of a call is of the call's CPU
abbrev pub OnOwnCpus : Script → RunRecord → Type 0
OnOwnCpus script kept =
    (x : Drawn) → IsAmong x (ordered kept.histories) → (place : ℕ) (call : Call) → slice_get script.calls place ≡ Some call → x.entry.call ≡ suc place → x.entry.cpu ≡ call.cpu

module _ (script : Script) (kept : RunRecord) (well : WellShaped script kept) (ticketed : AreTicketed kept.histories kept.strands) (own : OnOwnCpus script kept) where
  abbrev turns_in : ℕ → List Drawn
  turns_in number = drawn_of number (ordered kept.histories)

  abbrev spare : ℕ → ℕ → Option ℕ
  spare cpu number = spare_by script.shape kept.histories cpu number

  pub number_is : (number : ℕ) (x : Drawn) → IsAmong x (drawn_of number (ordered kept.histories)) → x.entry.call ≡ number
  number_is number x there = eqb-true x.entry.call number (filter_among (λ (drawn : Drawn). eqb drawn.entry.call number) x (ordered kept.histories) there).1

  pub on_cpu : (place : ℕ) (call : Call) → slice_get script.calls place ≡ Some call → (x : Drawn) → IsAmong x (drawn_of (suc place) (ordered kept.histories)) → x.entry.cpu ≡ call.cpu
  on_cpu place call at x there =
      own x (filter_among (λ (drawn : Drawn). eqb drawn.entry.call (suc place)) x (ordered kept.histories) there).0 place call at (number_is (suc place) x there)

  pub at_call : (place : ℕ) (call : Call) → slice_get script.calls place ≡ Some call
      → spare_by script.shape kept.histories call.cpu (suc (suc place)) ≡ spare_left script.shape (spare_by script.shape kept.histories call.cpu (suc place)) (map (at_of kept.histories) (drawn_of (suc place) (ordered kept.histories)))
  at_call place call at = by_own script.shape kept.histories ticketed.each_once (low script kept well) call.cpu (suc place) (on_cpu place call at)

  pub past_call : (place : ℕ) (call : Call) → slice_get script.calls place ≡ Some call → (cpu : ℕ) → cpu ≢ call.cpu
      → spare_by script.shape kept.histories cpu (suc (suc place)) ≡ spare_by script.shape kept.histories cpu (suc place)
  past_call place call at cpu other =
      by_other script.shape kept.histories ticketed.each_once (low script kept well) cpu (suc place)
      (λ x there. ne_eqb x.entry.cpu cpu (λ same. other (sym same ∙ on_cpu place call at x there)))

  -- no turn is of a call before the first or behind the last
  no_turns : (number : ℕ) → ((x : Drawn) → IsAmong x (ordered kept.histories) → x.entry.call ≡ number → ⊥) → turns_in number ≡ []
  no_turns number none = none_among (turns_in number) (λ x there. none x (filter_among (λ (drawn : Drawn). eqb drawn.entry.call number) x (ordered kept.histories) there).0 (number_is number x there))

  quiet : (cpu number : ℕ) → turns_in number ≡ [] → spare_by script.shape kept.histories cpu (suc number) ≡ spare_by script.shape kept.histories cpu number
  quiet cpu number none = by_other script.shape kept.histories ticketed.each_once (low script kept well) cpu number (λ x there. absurd (subst (λ (l : List Drawn). IsAmong x l) none there))

  pub at_first : (cpu : ℕ) → spare_by script.shape kept.histories cpu 1 ≡ spare_at (opening script.shape) cpu
  at_first cpu =
      quiet cpu 0 (no_turns 0 (λ x there is. absurd (let some = (fits script kept well x (ordered_all kept.histories x there)).some_call in omega (arith, is, some))))
      ∙ either (is_lru script.shape.kind)
    where
      either : (lru : Bool) → cond lru (spare_at (opening script.shape) cpu) (spare_at (opening script.shape) cpu) ≡ spare_at (opening script.shape) cpu
      either true = refl
      either false = refl

  pub past_last : (cpu d : ℕ) → spare_by script.shape kept.histories cpu (d + suc (length script.calls)) ≡ spare_by script.shape kept.histories cpu (suc (length script.calls))
  past_last cpu zero = let same : 0 + suc (length script.calls) ≡ suc (length script.calls) = omega arith in ap (spare_by script.shape kept.histories cpu) same
  past_last cpu (suc d) =
      let more : suc d + suc (length script.calls) ≡ suc (d + suc (length script.calls)) = omega arith in
      ap (spare_by script.shape kept.histories cpu) more
      ∙ (quiet cpu (d + suc (length script.calls)) (no_turns (d + suc (length script.calls)) (λ x there is. absurd (let few = (fits script kept well x (ordered_all kept.histories x there)).of_script in omega (arith, is, few))))
      ∙ past_last cpu d)
