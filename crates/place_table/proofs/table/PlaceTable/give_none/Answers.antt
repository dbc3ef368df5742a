use Rattle.std.proofs.Common.{◌≡◌, rules, refl, sym, ap, ◌∙◌, subst, [], ◌∷◌, Some, None}
use Rattle.map_types.specs.declared.attr.Shape.{Shape}
use Rattle.atomic_table.specs.Table.{rest}
use Rattle.place_table.specs.declared.content.Behind.{Behind}
use Rattle.place_table.specs.declared.view.View.{View}
use Rattle.place_table.specs.Passes.{PassView}
use Rattle.place_table.specs.Views.{ticketed, ticket_of}
use Rattle.place_table.specs.Tickets.{IsTaken}
use Rattle.place_table.specs.Plays.{MayGive, GivesSome, TakesTicket, entry_by}
use Rattle.place_table.specs.TurnNotes.{NotesFit}
use Rattle.place_table.proofs.Passes.{slot_given, may_lose, is_pass_lost, gave_some_of}
use Rattle.place_table.proofs.TicketsTaken.{ticketed_by, takes_view, can_ticketed, slots_stay}
use Rattle.place_table.proofs.table.PlaceTable.give_none.Goals as goal

pub put_unrecorded-requires-clause-slot : goal.put_unrecorded-requires-clause-slot
put_unrecorded-requires-clause-slot c =
    let slot = slot_given _ _ _ _ _ c.requires.1 c.pass.inside.seat.me.0 c.pass.inside.seat.me.1 c.lock_number-number.result (search rules) (search rules) c.pass.invariant.carries in
    let is = ticketed_by c.pass.inside.seat.me _ c.take_ticket.new.seat.me c.take_ticket.ensures.took in
    (slot.0, slots_stay c.pass.inside.seat.me _ c.take_ticket.new.seat.me is c.lock_number-number.result slot.0 slot.1)

pub lose_lock-requires-clause-may : goal.lose_lock-requires-clause-may
lose_lock-requires-clause-may c =
    let can = c.requires.1 in
    let done = c.put_unrecorded.ensures.put in
    let is = ticketed_by c.pass.inside.seat.me _ c.take_ticket.new.seat.me c.take_ticket.ensures.took in
    let view_is : c.put_unrecorded.new.seat.me.0 ≡ ticketed is.ticket is.reached is.touched c.args.pass.now.view = ap (λ z. z.0) done ∙ (ap (λ z. z.0) is.after_is ∙ ap (λ z. ticketed is.ticket is.reached is.touched z.view) c.pass.view_is) in
    let key_is : c.self.inside.table.shared.key ≡ c.args.self.now.shape = search rules in
    let can_now = can_ticketed _ _ _ _ _ is.ticket is.reached is.touched can in
    let behind : Behind = record { content = Some c.args.content; history = None } in (
      behind,
      can.hold,
      can.below,
      c.requires.0,
      can.notes,
      can.notes_below,
      ap (λ z. z.1) done ∙ ap (λ l. (c.lock_number-number.result, behind) ∷ l) (sym (ap (λ z. rest z.1) done)),
      ap (λ z. z.held) view_is ∙ can.innermost,
      search rules,
      subst (λ (z : PassView). MayGive c.self.inside.table.shared.key c.put_unrecorded.new.seat.me.0 can.hold (entry_by (ticket_of c.put_unrecorded.new.seat.me.0) z.cpu z.call c.requires.0) c.put_unrecorded.new.seat.me.0.kept behind) (sym c.pass.view_is) (may_lose _ _ _ _ _ can_now _ _ key_is view_is (subst (λ (v : View). IsTaken v.ticket) (sym (ap (λ z. z.0) done)) is.taken)),
      ap (λ z. z.notes) view_is ∙ can.notes_are,
      subst (λ (z : Shape × View). NotesFit z.0 z.1 can.hold c.requires.0 can.notes) (λ i. (sym key_is i, sym view_is i)) can_now.notes_fit,
    )

pub invariant_of-pass : goal.invariant_of-pass
invariant_of-pass c =
    let done = c.put_unrecorded.ensures.put in
    let is = ticketed_by c.pass.inside.seat.me _ c.take_ticket.new.seat.me c.take_ticket.ensures.took in
    is_pass_lost _ is.ticket is.reached is.touched c.pass.inside.seat.me.1 _ _ _ _ c.put_unrecorded.new.seat.me _ c.pass.invariant (ap (λ z. z.0) done ∙ ap (λ z. z.0) is.after_is) (ap (λ z. rest z.1) done ∙ ap (λ z. rest z.1) is.after_is) c.lose_lock.ensures.gave

pub returns : goal.returns
returns c =
    let can = c.requires.1 in
    let done = c.put_unrecorded.ensures.put in
    let behind : Behind = record { content = Some c.args.content; history = None } in
    let takes = subst (λ (z : View). TakesTicket (z, []) c.take_ticket.result (c.take_ticket.new.seat.me.0, [])) (ap (λ z. z.view) c.pass.view_is) (takes_view c.pass.inside.seat.me _ c.take_ticket.new.seat.me c.take_ticket.ensures.took) in
    gave_some_of c.args.self.now c.args.lock c.args.pass.now _ c.args.content c.requires.0 can c.take_ticket.result c.take_ticket.new.seat.me.0 (ticketed_by _ _ _ takes) c.put_unrecorded.new.seat.me c.lose_lock.new.seat.me behind c.lock_number-number.result takes (ap (λ z. z.0) done)
    (ap (λ z. z.1) done ∙ ap (λ l. (c.lock_number-number.result, behind) ∷ l) (sym (ap (λ z. rest z.1) done))) refl
    (subst (λ (z : PassView). GivesSome z.cpu z.call c.put_unrecorded.new.seat.me c.lose_lock.new.seat.me) c.pass.view_is c.lose_lock.ensures.gave) (ap (λ z. z.view.ticket) (sym c.pass.view_is) ∙ c.pass.invariant.unread) (search rules)
