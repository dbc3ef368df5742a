-- A core that answers a step is one afterwards.
use Rattle.std.proofs.Common.{ap, ◌∙◌, sym, subst}
use Rattle.std.specs.Prelude.{Result, Ok, Err}
use Rattle.map_types.specs.declared.attr.Shape.{Shape}
use Rattle.map_types.specs.Creation.{IsShape}
use Rattle.map_types.proofs.CreationLemmas.{bounds_of_shape}
use Rattle.place_words.specs.declared.step.Step.{Step}
use Rattle.place_words.specs.Locks.{lock_count}
use Rattle.place_words.specs.Places.{Placed}
use Rattle.place_words.specs.Ranks.{Ranked}
use Rattle.place_words.specs.Steps.{CoreStep}
use Rattle.place_words.proofs.StepLaws.{core_step_placed, core_step_ranked}
use Rattle.place_core.specs.declared.refusal.CoreRefusal.{CoreRefusal}
use Rattle.place_core.specs.declared.refusal.CoreRefusal.TheVariants.{NotEnabled, NoMemory}
use Rattle.place_core.specs.Answers.{Does, Answers}
use Rattle.place_core.specs.CoreView.{CoreView, state_of, IsCore}

-- a core that did a step is one
pub did_core : (before : CoreView) (step : Step) (now : CoreView) → IsCore before → Does before step now → IsCore now
did_core before step now is did =
    let bounds = bounds_of_shape before.shape is.is_shape in
    let stepped : CoreStep before.shape (state_of before) step (state_of now) = record { enabled = did.enabled; changed = did.changed } in
    let placed = core_step_placed before.shape step (state_of before) (state_of now) bounds stepped is.placed in
    let ranked = core_step_ranked before.shape step (state_of before) (state_of now) stepped is.ranked in
    let back = sym did.room.shape in
    record {
      is_shape = subst IsShape back is.is_shape;
      locks = did.room.locks ∙ (is.locks ∙ ap lock_count back);
      owners = did.room.owners ∙ (is.owners ∙ ap (λ (s : Shape). s.elements) back);
      homes = did.room.homes ∙ (is.homes ∙ ap (λ (s : Shape). s.elements) back);
      bits = did.room.bits ∙ (is.bits ∙ ap (λ (s : Shape). s.elements) back);
      held = did.room.held;
      placed = subst (λ (s : Shape). Placed s (state_of now)) back placed;
      ranked = subst (λ (s : Shape). Ranked s (state_of now)) back ranked;
    }

-- whatever is answered, it is a core afterwards
pub answered_core : (before : CoreView) (step : Step) (now : CoreView) (answer : Result (Unit {0}) CoreRefusal) → IsCore before → Answers before step now answer → IsCore now
answered_core before step now (Ok done) is did = did_core before step now is did
answered_core before step now (Err NotEnabled) is none = subst IsCore (sym none.1) is
answered_core before step now (Err NoMemory) is same = subst IsCore (sym same) is
