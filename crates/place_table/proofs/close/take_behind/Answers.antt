use Rattle.std.proofs.Common.{◌≡◌, ℕ, ◌+◌, ◌<◌, ◌∷◌, ◌∙◌, List, [], length, map, take, ap, sym, subst, arith}
use Rattle.std.proofs.lemmas.List.{length-append}
use Rattle.std.specs.Slots.{slots_items}
use mathlib.Core.Option.{some}
use lib.ListN.{get_elem?}
use Rattle.place_table.specs.declared.content.Behind.{Behind}
use Rattle.place_table.specs.Leaving.{AreTaken}
use Rattle.place_table.proofs.Leaves.{part_more, taken_more}
use Rattle.place_table.proofs.close.take_behind.Goals as goal

pub loop-slot-preserved : goal.loop-slot-preserved
loop-slot-preserved c =
    let so_far = c.loop-slot.invariant in
    let others = c.take-content.ensures.others in
    let i : ℕ = c.loop-slot.slot in
    let slots : List Behind = slots_items c.args.closed.now.slots in
    let behind : Behind = c.take-content.result in
    let below : i < c.args.past = c.loop-slot-test.true in
    let within : i < length slots = omega (arith, c.args.closed.now.slots.ok.0, c.requires.within, below) in
    let filled : i < length c.loop-slot.closed.slots.filled = omega (arith, c.loop-slot.closed.slots.ok.1, so_far.count, c.requires.within, below) in
    let at : get_elem? slots i ≡ some behind = ap (λ (l : List Behind). get_elem? l i) (sym so_far.same) ∙ c.take-content.ensures.value in
    let one_more = ap length c.push_reserved.ensures.items ∙ length-append c.loop-slot.contents.items (behind.content ∷ []) in
    let one_turn_more = ap length c.push_reserved-in-loop-slot.ensures.items ∙ length-append c.loop-slot.turns.items (behind.history ∷ []) in record {
      same = others.0 ∙ so_far.same;
      count = others.2 ∙ so_far.count;
      taken = subst (AreTaken (i + 1)) (sym others.1) (taken_more c.loop-slot.closed.slots.filled i filled so_far.taken);
      contents = part_more (λ (b : Behind). b.content) slots i behind (take c.args.first (map (λ (b : Behind). b.content) slots)) c.loop-slot.contents.items _ within at so_far.contents c.push_reserved.ensures.items;
      turns = part_more (λ (b : Behind). b.history) slots i behind (take c.args.first (map (λ (b : Behind). b.history) slots)) c.loop-slot.turns.items _ within at so_far.turns c.push_reserved-in-loop-slot.ensures.items;
      so_many = omega (arith, one_more, so_far.so_many);
      so_many_turns = omega (arith, one_turn_more, so_far.so_many_turns);
      room = rw c.push_reserved.ensures.capacity so_far.room;
      room_for_turns = rw c.push_reserved-in-loop-slot.ensures.capacity so_far.room_for_turns;
    }
