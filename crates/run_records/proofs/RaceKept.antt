-- The turns of a strand as steps, and strands without any.
use Rattle.std.proofs.Common.{◌≡◌, ℕ, suc, ◌+◌, true, false, not, cond, eqb, List, [], ◌∷◌, length, map, refl, ap, ◌∙◌, arith}
use Rattle.std.proofs.lemmas.Bool.{ne_eqb}
use Rattle.map_types.specs.declared.attr.Shape.{Shape}
use Rattle.map_types.proofs.RowLemmas.{by_test}
use Rattle.place_words.specs.declared.history.StrandStep.{StrandStep}
use Rattle.place_words.specs.Locks.{lock_named}
use Rattle.place_words.specs.Strands.{places_on}
use Rattle.place_table.specs.declared.view.Ended.{Ended}
use Rattle.place_table.specs.declared.view.Turned.{Turned}
use Rattle.place_table.specs.Rules.{turns_on, indexes}
use Rattle.place_table.specs.Views.{is_recorded, place_of, kept_step}
use Rattle.map_report.proofs.LogTickets.{same_number}
use Rattle.run_records.specs.Work.{has_turn}
use Rattle.serial_laws.proofs.HistoryTurns.{by_bool}

-- turns as steps that name their places
abbrev pub steps_of : Shape → List Turned → List StrandStep
steps_of shape turns = map (λ (step : Turned). kept_step shape step.lock (place_of step)) turns

-- the places that they name on a lock
pub places_of_steps : (shape : Shape) (k : ℕ) (turns : List Turned) → places_on (lock_named shape k) (steps_of shape turns) ≡ indexes (turns_on k turns)
places_of_steps shape k [] = refl
places_of_steps shape k (step ∷ turns) =
    let rest = places_of_steps shape k turns in
    ap (λ b. cond b (place_of step ∷ places_on (lock_named shape k) (steps_of shape turns)) (places_on (lock_named shape k) (steps_of shape turns))) (same_number shape step.lock k)
    ∙ by_bool (eqb step.lock k)
    (λ b. cond b (place_of step ∷ places_on (lock_named shape k) (steps_of shape turns)) (places_on (lock_named shape k) (steps_of shape turns)) ≡ indexes (cond b ((place_of step, step.entry) ∷ turns_on k turns) (turns_on k turns)))
    (λ _. ap (λ places. place_of step ∷ places) rest) (λ _. rest)

-- Strands without turns

-- a strand that has none has no step either
pub no_turn : (strand : Ended) → has_turn strand ≡ false → (strand.steps ≡ []) × (strand.kept ≡ [])
no_turn strand none = go strand.steps strand.kept none
  where
    go : (steps : List Turned) (kept : List StrandStep) → not (eqb (length steps + length kept) 0) ≡ false → (steps ≡ []) × (kept ≡ [])
    go [] [] is = (refl, refl)
    go [] (step ∷ kept) is = let other = ap not (ne_eqb (0 + suc (length kept)) 0 (λ zero. omega arith)) in absurd cc
    go (step ∷ steps) kept is = let other = ap not (ne_eqb (suc (length steps) + length kept) 0 (λ zero. omega arith)) in absurd cc

-- a strand with a recorded step has a turn or a recorded step
pub recorded_turn : (strand : Ended) → is_recorded strand ≡ true → has_turn strand ≡ true
recorded_turn strand there =
    by_test (length strand.kept) 0 (λ b. not b ≡ true → has_turn strand ≡ true) (λ _ none. cc) (λ some _. ap not (ne_eqb (length strand.steps + length strand.kept) 0 (λ is. some (omega arith)))) there
