use Rattle.std.proofs.Common.{arith, ◌∙◌}
use Rattle.map_types.proofs.CreationLemmas.{bounds_of_shape}
use Rattle.place_words.specs.OpeningState.{opening_lists}
use Rattle.place_words.proofs.StartLemmas.{map_next}
use Rattle.place_core.proofs.OpeningCore.{lists_item}
use Rattle.place_core.proofs.first_cells.lists_at_first.Goals as goal

pub overflow_add-count : goal.overflow_add-count
overflow_add-count c = let bounds = bounds_of_shape c.args.shape.now c.requires.shape in omega arith

pub overflow_add-count-2 : goal.overflow_add-count-2
overflow_add-count-2 c = let bounds = bounds_of_shape c.args.shape.now c.requires.shape in omega arith

pub overflow_add-count-3 : goal.overflow_add-count-3
overflow_add-count-3 c = let bounds = bounds_of_shape c.args.shape.now c.requires.shape in omega arith

pub overflow_add-count-4 : goal.overflow_add-count-4
overflow_add-count-4 c = let bounds = bounds_of_shape c.args.shape.now c.requires.shape in omega arith

pub loop-number-preserved : goal.loop-number-preserved
loop-number-preserved c =
    map_next (opening_lists c.args.shape.now) c.loop-number.number c.loop-number.lists.items c.push.new.self.items _ c.loop-number.invariant
    (lists_item c.args.shape.now c.loop-number.number c.lock_named.result c.in_ok-free.free c.of.result c.of-in-loop-number.result c.in_ok-free.ensures c.lock_named.ensures (c.of.ensures ∙ c.new.ensures.items) (c.of-in-loop-number.ensures ∙ c.new-in-loop-number.ensures.items))
    c.in_ok-push.ensures.items
