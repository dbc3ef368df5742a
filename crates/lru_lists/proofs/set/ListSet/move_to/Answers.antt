use Rattle.std.proofs.Common.{◌∙◌, ap, sym, arith, ℕ, ◌<◌}
use Rattle.lru_lists.specs.Sets.{SetView, times_on}
use Rattle.lru_lists.proofs.SetLemmas.{its_row, on_none_after}
use Rattle.lru_lists.proofs.set.ListSet.move_to.Goals as goal

pub move_in-requires-clause-below : goal.move_in-requires-clause-below
move_in-requires-clause-below g c =
    let set = c.args.self.now in
    let its = its_row c.args.element set c.in-Some.row (sym c.in-Some.ensures.taken) in
    let bound = ap (λ (now : SetView). now.elements) c.in-Some.ensures.exact in
    let listed = c.requires in
    let below : c.args.element < set.elements = c.in-Some.ensures.was_whole.below c.args.element (omega arith) in
    omega arith

pub move_in-requires-clause-absent : goal.move_in-requires-clause-absent
move_in-requires-clause-absent g c =
    let set = c.args.self.now in
    let its = its_row c.args.element set c.in-Some.row (sym c.in-Some.ensures.taken) in
    ap (λ (e : ℕ). times_on e c.take_off.new.self) its ∙ ap (times_on c.args.element) c.in-Some.ensures.exact ∙ on_none_after c.args.element set c.in-Some.ensures.was_whole c.requires
