use Rattle.std.proofs.Common.{◌∙◌}
use Rattle.place_table.proofs.FirstSlots.{slots_more}
use Rattle.place_table.proofs.create.push_slots.Goals as goal

pub loop-lock-preserved : goal.loop-lock-preserved
loop-lock-preserved c = record {
  are = slots_more c.args.shape.now c.loop-lock.slots.items c.push_reserved.new.self.items _ c.loop-lock.lock c.loop-lock.invariant.are c.in_ok-first_slot.ensures c.push_reserved.ensures.items;
  room = c.push_reserved.ensures.capacity ∙ c.loop-lock.invariant.room;
}
