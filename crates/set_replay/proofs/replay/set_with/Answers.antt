use Rattle.std.proofs.Common.{ℕ, ◌-◌, ◌<◌, ap, sym, subst, refl, arith}
use Rattle.map_types.specs.Stored.{Stored}
use Rattle.set_replay.proofs.SetRoom.{room_for_new, not_free_yet, is_real, one_more_opens}
use Rattle.set_replay.proofs.replay.set_with.Goals as goal

pub free_push-requires-clause-room : goal.free_push-requires-clause-room
free_push-requires-clause-room g c =
    let inv = c.loop-left.invariant in
    let left = c.loop-left.left in
    let its = ap (λ (b : Stored). b.element) c.in_ok-body.ensures.zeroed in
    room_for_new c.in_ok-body.body.element c.loop-left.set inv.opens.whole inv.opens.room
    (subst (λ (n : ℕ). c.in_ok-body.body.element < n) (sym inv.opens.bound) (is_real c.args.elements c.args.free.now (left - 1) c.in_ok-body.body.element c.requires.below (omega (arith, inv.within, c.loop-left-test.true)) its))
    (not_free_yet c.args.elements c.args.free.now (left - 1) left c.in_ok-body.body.element c.loop-left.set c.requires.once (omega (arith, c.loop-left-test.true)) inv.within its inv.opens)

pub free_push-requires-clause-below : goal.free_push-requires-clause-below
free_push-requires-clause-below g c =
    let inv = c.loop-left.invariant in
    let its = ap (λ (b : Stored). b.element) c.in_ok-body.ensures.zeroed in
    subst (λ (n : ℕ). c.in_ok-body.body.element < n) (sym inv.opens.bound) (is_real c.args.elements c.args.free.now (c.loop-left.left - 1) c.in_ok-body.body.element c.requires.below (omega (arith, inv.within, c.loop-left-test.true)) its)

pub free_push-requires-clause-absent : goal.free_push-requires-clause-absent
free_push-requires-clause-absent g c =
    let inv = c.loop-left.invariant in
    let left = c.loop-left.left in
    let its = ap (λ (b : Stored). b.element) c.in_ok-body.ensures.zeroed in
    not_free_yet c.args.elements c.args.free.now (left - 1) left c.in_ok-body.body.element c.loop-left.set c.requires.once (omega (arith, c.loop-left-test.true)) inv.within its inv.opens

pub loop-left-preserved : goal.loop-left-preserved
loop-left-preserved g c =
    let inv = c.loop-left.invariant in
    let left = c.loop-left.left in
    let its = ap (λ (b : Stored). b.element) c.in_ok-body.ensures.zeroed in
    record {
      within = omega (arith, inv.within);
      opens = one_more_opens c.args.elements c.args.free.now (left - 1) left c.in_ok-body.body.element c.loop-left.set c.free_push.new.self c.in_ok-body.body c.requires.once c.requires.below (omega (arith, c.loop-left-test.true)) inv.within its refl inv.opens
          c.free_push.ensures.exact c.free_push.ensures.whole;
    }
