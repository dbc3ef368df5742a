use Rattle.std.proofs.Common.{◌≡◌, ℕ, ◌+◌, ◌-◌, sym, subst, arith}
use Rattle.lru_lists.specs.Sets.{times_on}
use Rattle.place_table.proofs.FirstSets.{is_below, is_absent, filled_next}
use Rattle.place_table.proofs.create.set_of.Goals as goal

pub free_push-requires-clause-below : goal.free_push-requires-clause-below
free_push-requires-clause-below c =
    let some = c.loop-left-test.true in
    let next : c.loop-left.left - 1 + 1 ≡ c.loop-left.left = omega arith in
    let less = is_below c.args.shape.now c.args.elements.now c.loop-left.left (c.loop-left.left - 1) c.loop-left.set c.loop-left.invariant next c.requires.real in
    let its = c.in_ok-new_body.ensures.element in
    omega arith

pub free_push-requires-clause-absent : goal.free_push-requires-clause-absent
free_push-requires-clause-absent c =
    let some = c.loop-left-test.true in
    let next : c.loop-left.left - 1 + 1 ≡ c.loop-left.left = omega arith in
    subst (λ (e : ℕ). times_on e c.loop-left.set ≡ 0) (sym c.in_ok-new_body.ensures.element)
    (is_absent c.args.shape.now c.args.elements.now c.loop-left.left (c.loop-left.left - 1) c.loop-left.set c.loop-left.invariant next c.requires.once)

pub loop-left-preserved : goal.loop-left-preserved
loop-left-preserved c =
    let some = c.loop-left-test.true in
    let next : c.loop-left.left - 1 + 1 ≡ c.loop-left.left = omega arith in
    filled_next c.args.shape.now c.args.elements.now c.loop-left.left (c.loop-left.left - 1) c.loop-left.set c.loop-left.invariant next c.requires.few
    c.in_ok-new_body.field-0 c.free_push.new.self c.in_ok-new_body.ensures.element c.in_ok-new_body.ensures.sized c.free_push.ensures.exact c.free_push.ensures.whole
