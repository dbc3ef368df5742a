use Rattle.std.proofs.Common.{◌≡◌, ◌∙◌, ap, sym, subst, length, List, All, arith}
use Rattle.std.proofs.lemmas.List.{take_at}
use Rattle.step_check.specs.Places.{AreInOrder, IsPlace, turns_at}
use Rattle.step_check.specs.declared.places.TurnPlace.{TurnPlace}
use Rattle.step_check.proofs.ByTicket.{in_order, tickets_within}
use Rattle.step_check.proofs.places.places_by_ticket.Goals as goal

pub set_places-requires-clause-within : goal.set_places-requires-clause-within
set_places-requires-clause-within c =
    let long : length c.as_slice.result.now ≡ length c.as_mut_slice.result.now =
    omega (arith, ap length c.as_slice.ensures.value, ap length c.as_mut_slice.ensures.value, c.in_ok-by_ticket.ensures, c.len.ensures, c.in_ok-places.places.ok.0) in
    tickets_within c.args.histories.now c.as_slice.result.now (length c.as_mut_slice.result.now) c.requires (ap (turns_at c.args.histories.now) c.as_slice.ensures.value ∙ c.in_ok-places.ensures.named) long

pub returns : goal.returns
returns c =
    let now : List TurnPlace = c.set_places.new.by_ticket in
    let long : length now ≡ length c.as_slice.result.now =
    omega (arith, ap length c.as_slice.ensures.value, ap length c.as_mut_slice.ensures.value, c.in_ok-by_ticket.ensures, c.len.ensures, c.in_ok-places.places.ok.0, c.set_places.auto.by_ticket) in
    let whole = take_at now _ c.in_ok-by_ticket.by_ticket.len (c.set_places.auto.by_ticket ∙ c.as_mut_slice.ensures.len) in
    subst (AreInOrder c.args.histories.now) (sym whole)
    (in_order c.args.histories.now c.as_slice.result.now c.as_mut_slice.result.now now record { history = 0; index = 0 } c.requires
    (ap (turns_at c.args.histories.now) c.as_slice.ensures.value ∙ c.in_ok-places.ensures.named)
    (subst (All (IsPlace c.args.histories.now)) (sym c.as_slice.ensures.value) c.in_ok-places.ensures.real) long c.set_places.ensures)
