use Rattle.std.proofs.Common.{◌≡◌, vec_capacity}
use Rattle.place_table.specs.Opening.{AreFirstSlots}
use Rattle.place_table.proofs.create.push_slots.Given as goal

-- the slots so far
abbrev pub invariant-loop-lock : goal.invariant-loop-lock
invariant-loop-lock l = record { are : AreFirstSlots l.shape l.lock l.slots.items; room : vec_capacity l.slots ≡ vec_capacity l.initial.slots }
