use Rattle.std.proofs.Common.{◌≤◌, ap, sym, subst, refl, Option}
use Rattle.std.proofs.lemmas.Bool.{true≢false}
use Rattle.std.specs.Option.{IsSome}
use Rattle.map_types.specs.Stored.{Stored}
use Rattle.map_types.specs.declared.row.Row.{Row}
use Rattle.lru_lists.specs.Sets.{SetView}
use Rattle.set_replay.proofs.PushLemmas.{not_pushed, was_pushed}
use Rattle.set_replay.proofs.SetRoom.{room_to_push}
use Rattle.set_replay.proofs.pushing.pushes.Goals as goal

pub free_push-requires-clause-room : goal.free_push-requires-clause-room
free_push-requires-clause-room g c =
    subst (λ (m : SetView). 1 ≤ m.free.spare) (sym c.take_off.ensures.exact)
    (room_to_push c.args.element c.args.set.now c.take_off.ensures.was_whole c.requires (c.take_off.ensures.present.0 (subst (λ (r : Option Row). IsSome r) (sym c.in-Some.is) refl)))

pub returns-in-None : goal.returns-in-None
returns-in-None g c =
    not_pushed c.args.element c.args.set.now c.take_off.new.self
    (λ some. true≢false (sym (subst (λ (r : Option Row). IsSome r) c.in-None.is (c.take_off.ensures.present.1 some))))

pub returns-in_ok-body-in-Some : goal.returns-in_ok-body-in-Some
returns-in_ok-body-in-Some g c =
    was_pushed c.args.element c.args.set.now c.take_off.new.self c.free_push.new.self c.in_ok-body-in-Some.body
    c.take_off.ensures.was_whole c.requires
    (c.take_off.ensures.present.0 (subst (λ (r : Option Row). IsSome r) (sym c.in-Some.is) refl))
    (ap (λ (b : Stored). b.element) c.in_ok-body-in-Some.ensures.zeroed) c.take_off.ensures.exact c.free_push.ensures.exact c.free_push.ensures.whole
