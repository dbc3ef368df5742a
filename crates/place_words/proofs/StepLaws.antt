-- Every step keeps the places and the ranks.
use Rattle.std.proofs.Common.{List, [], ◌∷◌, refl, sym, subst}
use Rattle.map_types.specs.declared.attr.Shape.{Shape}
use Rattle.map_types.specs.Shape.{HasBounds}
use Rattle.place_words.specs.declared.step.Step.{Step}
use Rattle.place_words.specs.declared.step.Step.TheVariants.{Take, Give, Claim, Settle, Attach, Detach, Rehome, Mark, Clear, Glance}
use Rattle.place_words.specs.State.{State}
use Rattle.place_words.specs.Places.{Placed}
use Rattle.place_words.specs.Ranks.{Ranked}
use Rattle.place_words.specs.Steps.{IsEnabled, after, CoreStep, Leads}
use Rattle.place_words.proofs.OwnerSteps.{claim_keeps, settle_keeps, attach_keeps, detach_keeps}
use Rattle.place_words.proofs.HomeSteps.{rehome_keeps}
use Rattle.place_words.specs.OpeningState.{opening}
use Rattle.place_words.proofs.OpeningLaws.{opening_placed, opening_ranked}
use Rattle.place_words.proofs.LockSteps.{give_keeps, ranked_along, take_ranked, give_ranked}

pub step_keeps_places : (shape : Shape) (s : State) (step : Step) → HasBounds shape → IsEnabled shape s step → Placed shape s → Placed shape (after shape s step)
step_keeps_places shape s (Take cpu lock) bounds can p = record { place = p.place; placed = p.placed }
step_keeps_places shape s (Give cpu lock lists) bounds can p = give_keeps shape s cpu lock lists can p
step_keeps_places shape s (Claim cpu e lock) bounds can p = claim_keeps shape s p.place bounds p.placed cpu e lock can
step_keeps_places shape s (Settle cpu e lock) bounds can p = settle_keeps shape s p.place bounds p.placed cpu e lock can
step_keeps_places shape s (Attach cpu e bucket) bounds can p = attach_keeps shape s p.place bounds p.placed cpu e bucket can
step_keeps_places shape s (Detach cpu e bucket) bounds can p = detach_keeps shape s p.place bounds p.placed cpu e bucket can
step_keeps_places shape s (Rehome cpu e to) bounds can p = rehome_keeps shape s p.place bounds p.placed cpu e to can
step_keeps_places shape s (Mark cpu e bucket) bounds can p = record { place = p.place; placed = p.placed }
step_keeps_places shape s (Clear cpu e) bounds can p = record { place = p.place; placed = p.placed }
step_keeps_places shape s (Glance cpu e) bounds can p = p

pub step_keeps_ranks : (shape : Shape) (s : State) (step : Step) → IsEnabled shape s step → Ranked shape s → Ranked shape (after shape s step)
step_keeps_ranks shape s (Take cpu lock) can r = take_ranked shape s cpu lock can r
step_keeps_ranks shape s (Give cpu lock lists) can r = give_ranked shape s lock lists r
step_keeps_ranks shape s (Claim cpu e lock) can r = ranked_along shape s _ refl r
step_keeps_ranks shape s (Settle cpu e lock) can r = ranked_along shape s _ refl r
step_keeps_ranks shape s (Attach cpu e bucket) can r = ranked_along shape s _ refl r
step_keeps_ranks shape s (Detach cpu e bucket) can r = ranked_along shape s _ refl r
step_keeps_ranks shape s (Rehome cpu e to) can r = ranked_along shape s _ refl r
step_keeps_ranks shape s (Mark cpu e bucket) can r = ranked_along shape s _ refl r
step_keeps_ranks shape s (Clear cpu e) can r = ranked_along shape s _ refl r
step_keeps_ranks shape s (Glance cpu e) can r = r

-- and so does every list of steps
pub leads_to_placed : (shape : Shape) (steps : List Step) (s t : State) → HasBounds shape → Leads shape s steps t → Placed shape s → Placed shape t
leads_to_placed shape [] s t bounds leads p = subst (Placed shape) leads p
leads_to_placed shape (step ∷ steps) s t bounds leads p =
    leads_to_placed shape steps (after shape s step) t bounds leads.1 (step_keeps_places shape s step bounds leads.0 p)

pub leads_to_ranked : (shape : Shape) (steps : List Step) (s t : State) → Leads shape s steps t → Ranked shape s → Ranked shape t
leads_to_ranked shape [] s t leads r = subst (Ranked shape) leads r
leads_to_ranked shape (step ∷ steps) s t leads r =
    leads_to_ranked shape steps (after shape s step) t leads.1 (step_keeps_ranks shape s step leads.0 r)

pub core_step_placed : (shape : Shape) (step : Step) (before now : State) → HasBounds shape → CoreStep shape before step now → Placed shape before → Placed shape now
core_step_placed shape step before now bounds stepped p =
    subst (Placed shape) (sym stepped.changed) (step_keeps_places shape before step bounds stepped.enabled p)

pub core_step_ranked : (shape : Shape) (step : Step) (before now : State) → CoreStep shape before step now → Ranked shape before → Ranked shape now
core_step_ranked shape step before now stepped r =
    subst (Ranked shape) (sym stepped.changed) (step_keeps_ranks shape before step stepped.enabled r)

-- what is reached from the opening
pub reached_placed : (shape : Shape) (list : List Step) (s : State) → HasBounds shape → Leads shape (opening shape) list s → Placed shape s
reached_placed shape list s bounds leads = leads_to_placed shape list (opening shape) s bounds leads (opening_placed shape bounds)

pub reached_ranked : (shape : Shape) (list : List Step) (s : State) → Leads shape (opening shape) list s → Ranked shape s
reached_ranked shape list s leads = leads_to_ranked shape list (opening shape) s leads (opening_ranked shape)
