use Rattle.std.proofs.Common.{ℕ, ◌<◌, ◌≤◌, ◌+◌, ◌≡◌, sym, ap, ◌∙◌, subst, arith}
use Rattle.map_types.specs.ElementLists.{times, IsIn}
use Rattle.map_types.specs.Listed.{elements_of}
use Rattle.percpu_values.specs.BodyList.{BodyList}
use Rattle.place_words.specs.Bodies.{numbers}
use Rattle.local_lists.specs.LocalLists.{LocalView}
use Rattle.lru_lists.specs.Sets.{times_listed}
use Rattle.lru_ops.proofs.GlobalWalk.{stacked_below, stacked_apart}
use Rattle.lru_ops.proofs.probing.shrink_into.Goals as goal

pub swap_free-requires-2-clause-below : goal.swap_free-requires-2-clause-below
swap_free-requires-2-clause-below g c e some =
    let lists = c.args.lists.now in
    let swap = c.swap_free.ensures in
    let bound : c.swap_free.new.self.elements ≡ lists.elements = ap (λ (z : LocalView). z.elements) swap.exact in
    let here : (x : ℕ) → IsIn x (numbers c.swap_free.new.other.bodies) → x < lists.elements = λ x there.
    swap.was_whole.below x (let there : IsIn x (numbers lists.free.bodies) = subst (λ (z : BodyList). IsIn x (numbers z.bodies)) swap.other there in omega (arith, there)) in
    subst (λ (n : ℕ). e < n) (sym bound) (stacked_below c.shrink.ensures.shrink lists.elements c.requires.was_whole (sym c.requires.bound) here e some)

pub swap_free-requires-2-clause-absent : goal.swap_free-requires-2-clause-absent
swap_free-requires-2-clause-absent g c e =
    let swap = c.swap_free.ensures in
    let none : times e (elements_of c.swap_free.new.self.pending) ≡ 0 = ap (λ (z : LocalView). times e (elements_of z.pending)) swap.exact ∙ ap (λ l. times e (elements_of l)) c.requires.none_pending in
    let once : times_listed e c.shrink.new.set + times e (numbers c.shrink.new.out.bodies) ≤ 1 =
    stacked_apart c.shrink.ensures.shrink e (subst (λ (z : BodyList). times_listed e c.args.set.now + times e (numbers z.bodies) ≤ 1) (sym swap.other) (c.requires.apart e)) in
    omega (arith, none, once)
