use Rattle.std.proofs.Common.{◌≡◌, [], rules, refl, sym, ap, ◌∙◌, subst}
use Rattle.atomic_table.specs.Table.{rest}
use Rattle.place_table.specs.declared.view.View.{View}
use Rattle.place_table.specs.Views.{ticketed, numbered_entry}
use Rattle.place_table.specs.Tickets.{IsTaken}
use Rattle.place_table.specs.Plays.{TakesTicket}
use Rattle.place_table.specs.Passes.{entry_of}
use Rattle.place_table.proofs.Passes.{slot_given, kept_given, log_at_give, may_give, is_pass_given, gave_of}
use Rattle.place_table.proofs.Recorded.{kept_if, entry_given_is}
use Rattle.place_table.proofs.TicketsTaken.{ticketed_by, takes_view, can_ticketed, drawn_if, slots_stay}
use Rattle.place_table.proofs.table.PlaceTable.give_part.Goals as goal

pub put_back-lost-requires-clause-slot : goal.put_back-lost-requires-clause-slot
put_back-lost-requires-clause-slot c =
    let slot = slot_given _ _ _ _ _ c.requires c.pass.inside.seat.me.0 c.pass.inside.seat.me.1 c.lock_number-number.result (search rules) (search rules) c.pass.invariant.carries in
    let is = ticketed_by c.pass.inside.seat.me _ c.take_ticket-ticket.new.seat.me c.take_ticket-ticket.ensures.took in
    (slot.0, slots_stay c.pass.inside.seat.me _ c.take_ticket-ticket.new.seat.me is c.lock_number-number.result slot.0 slot.1, slot.2)

pub give_lock-requires-clause-may : goal.give_lock-requires-clause-may
give_lock-requires-clause-may c =
    let can = c.requires in
    let put = c.put_back-lost.ensures.put in
    let view_is = ap (λ z. z.view) c.pass.view_is in
    let seat_is = ap (λ z. z.0) put.4 in
    let is = ticketed_by c.pass.inside.seat.me _ c.take_ticket-ticket.new.seat.me c.take_ticket-ticket.ensures.took in
    let ready_is : c.take_ticket-ticket.new.seat.me.0 ≡ ticketed is.ticket is.reached is.touched c.args.pass.now.view = ap (λ z. z.0) is.after_is ∙ ap (ticketed is.ticket is.reached is.touched) view_is in
    let kept = kept_given _ _ _ _ _ can c.pass.inside.seat.me.0 c.pass.inside.seat.me.1 c.lock_number-number.result _ _ view_is (search rules) c.pass.invariant.carries (ap (λ z. z.1) (sym is.after_is) ∙ put.2) in
    let can_now = can_ticketed _ _ _ _ _ is.ticket is.reached is.touched can in (
      _,
      _,
      can.hold,
      can.below,
      ap (λ z. z.1) put.4,
      ap (λ z. z.held) (seat_is ∙ ready_is) ∙ can.innermost,
      search rules,
      may_give _ _ _ _ c.unwrap_or.result _ can_now _ _ _ _ _ _ _ _ _ (search rules) (seat_is ∙ ready_is) (ap (λ z. entry_of z c.unwrap_or.result c.args.part) c.pass.view_is)
          (ap (numbered_entry c.put_back-lost.new.seat.me.0) (entry_given_is _ _ _ _ _ _ _ _ _ _ _ put.3 (ap (λ z. z.1) put.4))) (subst (λ (v : View). IsTaken v.ticket) (sym seat_is) is.taken) (c.pass.invariant.strand_is ∙ ap (λ z. z.kept) view_is)
          (kept_if _ c.args.lock can.hold put.0 kept)
          (drawn_if _ put.0.history c.put_back-lost.new.seat.me.0 c.unwrap_or.result c.unwrap_or.ensures (λ t e. ap (λ z. z.ticket) seat_is ∙ is.drawn_is t e))
          put.3,
    )

pub invariant_of-pass : goal.invariant_of-pass
invariant_of-pass c =
    let put = c.put_back-lost.ensures.put in
    let is = ticketed_by c.pass.inside.seat.me _ c.take_ticket-ticket.new.seat.me c.take_ticket-ticket.ensures.took in
    let can = c.requires in
    let view_is = ap (λ z. z.view) c.pass.view_is in
    let seat_is = ap (λ z. z.0) put.4 in
    let ready_is : c.put_back-lost.new.seat.me.0 ≡ ticketed is.ticket is.reached is.touched c.pass.inside.seat.me.0 = seat_is ∙ ap (λ z. z.0) is.after_is in
    let kept = kept_given _ _ _ _ _ can c.pass.inside.seat.me.0 c.pass.inside.seat.me.1 c.lock_number-number.result _ _ view_is (search rules) c.pass.invariant.carries (ap (λ z. z.1) (sym is.after_is) ∙ put.2) in
    let log_is = log_at_give _ _ _ _ _ can c.pass.inside.seat.me.0 c.put_back-lost.new.seat.me.0 is.ticket is.reached is.touched _ _ _ _ _ _ _ view_is ready_is
    (ap (numbered_entry c.put_back-lost.new.seat.me.0) (entry_given_is _ _ _ _ _ _ _ _ _ _ _ put.3 (ap (λ z. z.1) put.4))) c.pass.invariant.strand_is c.pass.invariant.log_is
    (kept_if _ c.args.lock can.hold put.0 kept)
    (drawn_if _ put.0.history c.put_back-lost.new.seat.me.0 c.unwrap_or.result c.unwrap_or.ensures (λ t e. ap (λ z. z.ticket) seat_is ∙ is.drawn_is t e))
    put.3 in
    is_pass_given _ is.ticket is.reached is.touched c.pass.inside.seat.me.1 _ _ _ _ _ _ c.put_back-lost.new.seat.me _ c.pass.invariant log_is (ap (λ z. z.0) put.4 ∙ ap (λ z. z.0) is.after_is) (ap (λ z. rest z.1) put.4 ∙ ap (λ z. rest z.1) is.after_is) c.give_lock.ensures.gave refl

pub returns : goal.returns
returns c =
    let put = c.put_back-lost.ensures.put in
    let seat_is = ap (λ z. z.0) put.4 in
    let takes = subst (λ (z : View). TakesTicket (z, []) c.take_ticket-ticket.result (c.take_ticket-ticket.new.seat.me.0, [])) (ap (λ z. z.view) c.pass.view_is) (takes_view c.pass.inside.seat.me _ c.take_ticket-ticket.new.seat.me c.take_ticket-ticket.ensures.took) in
    gave_of c.args.pass.now _ c.unwrap_or.result c.args.part c.take_ticket-ticket.result c.take_ticket-ticket.new.seat.me.0 (ticketed_by _ _ _ takes) _ _ c.put_back-lost.new.seat.me c.give_lock.new.seat.me takes seat_is
    ((λ i. numbered_entry (seat_is i) ((entry_given_is _ _ _ _ _ _ _ _ _ _ _ put.3 (ap (λ z. z.1) put.4) ∙ ap (λ z. entry_of z c.unwrap_or.result c.args.part) c.pass.view_is) i))) c.give_lock.ensures.gave (ap (λ z. z.view.ticket) (sym c.pass.view_is) ∙ c.pass.invariant.unread) (search rules)
