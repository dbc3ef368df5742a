-- The spares that CPUs have after all calls.
use Rattle.std.proofs.Common.{◌≡◌, ◌⊎◌, inl, inr, ℕ, zero, suc, ◌+◌, ◌-◌, ◌<◌, ◌≤◌, Bool, true, false, cond, eqb, List, [], ◌∷◌, length, map, Option, None, Some, refl, ap, sym, ◌∙◌, arith}
use Rattle.std.specs.Prelude.{option_map, slice_get, unwrap_or}
use Rattle.std.proofs.lemmas.Bool.{cases_lt, ne_eqb}
use Rattle.map_types.specs.Kind.{is_lru}
use Rattle.map_types.specs.declared.attr.Shape.{Shape}
use Rattle.map_script.specs.declared.script.Script.{Script}
use Rattle.map_script.specs.WellFormed.{IsWellFormed}
use Rattle.place_words.specs.Interleaving.{Drawn, turn_of}
use Rattle.place_words.specs.Phases.{phase_of}
use Rattle.place_words.specs.PlainTraces.{spare_after}
use Rattle.place_words.specs.Tickets.{AreTicketed}
use Rattle.map_report.specs.declared.record.RunRecord.{RunRecord}
use Rattle.map_report.specs.Freelists.{opening_stacks, popped, spares_popped}
use Rattle.map_report.specs.Serial.{has_spares, opening, spare_count}
use Rattle.map_report.specs.Turns.{spare_at}
use Rattle.record_shape.specs.WellShaped.{WellShaped}
use Rattle.turn_order.specs.Ordered.{all_drawn, ordered}
use Rattle.turn_order.proofs.Members.{filter_among}
use Rattle.turn_order.proofs.TicketOrder.{ordered_all}
use Rattle.call_check.specs.RightCalls.{spare_last, ticket_bound}
use Rattle.call_check.proofs.CallSpares.{OnOwnCpus, past_last}
use Rattle.call_check.proofs.KnownTurns.{fits, low}
use Rattle.call_check.proofs.Moments.{before_call}
use Rattle.call_check.proofs.PhaseCalls.{number_phase}
use Rattle.call_check.proofs.PhaseMoments.{CallsRise, at_end}
use Rattle.call_check.proofs.SparesInOrder.{by_other, spare_by, turns_on}

-- a CPU that the map hasn't has no spare
few_popped : (n : ℕ) (stacks : List (List ℕ)) → length (spares_popped n stacks).0 ≤ n
few_popped zero stacks = omega arith
few_popped (suc n) stacks = by (popped 0 stacks) (few_popped n)
  where
    by : (top : Option (ℕ × List (List ℕ))) → ((rest : List (List ℕ)) → length (spares_popped n rest).0 ≤ n)
        → length (unwrap_or {T = List ℕ × List (List ℕ)} (option_map (λ (t : ℕ × List (List ℕ)). (t.0 ∷ (spares_popped n t.1).0, (spares_popped n t.1).1)) top) ([], stacks)).0 ≤ suc n
    by None later = omega arith
    by (Some top) later = let rest = later top.1 in omega (arith, rest)

few_spares : (shape : Shape) → spare_count shape ≤ shape.cpus
few_spares shape = by (has_spares shape.kind)
  where
    by : (b : Bool) → cond b shape.cpus 0 ≤ shape.cpus
    by true = omega arith
    by false = omega arith

nothing_past : (xs : List ℕ) (k : ℕ) → length xs ≤ k → slice_get xs k ≡ None
nothing_past [] k past = refl
nothing_past (x ∷ xs) zero past = absurd (omega (arith, past))
nothing_past (x ∷ xs) (suc k) past = nothing_past xs k (omega (arith, past))

none_at_first : (shape : Shape) (cpu : ℕ) → shape.cpus ≤ cpu → spare_at (opening shape) cpu ≡ None
unfolding opening
none_at_first shape cpu past =
    let few = few_popped (spare_count shape) (opening_stacks shape.elements shape.cpus) in
    let most = few_spares shape in
    nothing_past (spares_popped (spare_count shape) (opening_stacks shape.elements shape.cpus)).0 cpu (omega (arith, few, most, past))

pub few_calls : (n : ℕ) → n ≤ 200000 → n < ticket_bound
unfolding ticket_bound
few_calls n few = omega (arith, few)

module _ (script : Script) (kept : RunRecord) (formed : IsWellFormed script) (well : WellShaped script kept) (ticketed : AreTicketed kept.histories kept.strands) (own : OnOwnCpus script kept)
    (rise : CallsRise script.cuts kept.histories) where
  abbrev spare : ℕ → ℕ → Option ℕ
  spare cpu number = spare_by script.shape kept.histories cpu number

  last_by : (cpu : ℕ) → spare_last script.cuts script.shape kept.histories cpu ≡ spare cpu ticket_bound
  last_by cpu =
      ap (λ (l : List Drawn). cond (is_lru script.shape.kind) (spare_at (opening script.shape) cpu) (spare_after (spare_at (opening script.shape) cpu) (map turn_of l)))
      (at_end script.cuts kept.histories (low script kept well) rise cpu
      (λ x there.
      let fit = fits script kept well x there in
      let phases = number_phase script formed x.entry.call in
      (few_calls (phase_of script.cuts x.entry.call) (let some = formed.phases.few in omega (arith, phases, some)), few_calls x.entry.call (let all = formed.few in let its = fit.of_script in omega (arith, all, its)))))
      ∙ ap (λ (l : List Drawn). cond (is_lru script.shape.kind) (spare_at (opening script.shape) cpu) (spare_after (spare_at (opening script.shape) cpu) (turns_on cpu l)))
      (before_call (all_drawn kept.histories) (low script kept well) ticket_bound)

  pub last_is : (cpu : ℕ) → spare_last script.cuts script.shape kept.histories cpu ≡ spare_by script.shape kept.histories cpu (suc (length script.calls))
  last_is cpu =
      let few : length script.calls < ticket_bound = few_calls (length script.calls) formed.few in
      let d : ℕ = ticket_bound - suc (length script.calls) in
      let is : ticket_bound ≡ d + suc (length script.calls) = omega (arith, few) in
      last_by cpu ∙ (ap (spare cpu) is ∙ past_last script kept well ticketed own cpu d)

  none_by : (cpu : ℕ) → script.shape.cpus ≤ cpu → (number : ℕ) → spare cpu number ≡ spare_at (opening script.shape) cpu
  none_by cpu past zero = by (is_lru script.shape.kind)
    where
      by : (lru : Bool) → cond lru (spare_at (opening script.shape) cpu) (spare_at (opening script.shape) cpu) ≡ spare_at (opening script.shape) cpu
      by true = refl
      by false = refl
  none_by cpu past (suc number) =
      by_other script.shape kept.histories ticketed.each_once (low script kept well) cpu number
      (λ x there. ne_eqb x.entry.cpu cpu (λ same.
      absurd (let real = (fits script kept well x (ordered_all kept.histories x (filter_among (λ (drawn : Drawn). eqb drawn.entry.call number) x (ordered kept.histories) there).0)).cpu in omega (arith, real, same, past))))
      ∙ none_by cpu past number

  -- the last spares are those at the end, if those of the map's CPUs are
  pub last_are : ((cpu : ℕ) → cpu < script.shape.cpus → spare_by script.shape kept.histories cpu (suc (length script.calls)) ≡ spare_at kept.finals cpu)
      → (cpu : ℕ) → spare_last script.cuts script.shape kept.histories cpu ≡ spare_at kept.finals cpu
  last_are each cpu = by (cases_lt cpu script.shape.cpus)
    where
      by : (cpu < script.shape.cpus) ⊎ (script.shape.cpus ≤ cpu) → spare_last script.cuts script.shape kept.histories cpu ≡ spare_at kept.finals cpu
      by (inl real) = last_is cpu ∙ each cpu real
      by (inr past) =
          let few = few_spares script.shape in
          let many = well.finals.spares.1 in
          last_by cpu ∙ (none_by cpu past ticket_bound ∙ (none_at_first script.shape cpu past ∙ sym (nothing_past kept.finals.spares cpu (omega (arith, few, many, past)))))
