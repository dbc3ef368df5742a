use Rattle.std.proofs.Common.{◌≡◌, ◌+◌, vec_capacity}
use Rattle.place_words.specs.Locks.{first_bucket}
use Rattle.place_table.specs.Opening.{AreFirstSlots}
use Rattle.place_table.proofs.create.push_buckets.Given as goal

-- the slots so far
abbrev pub invariant-loop : goal.invariant-loop
invariant-loop l = record { are : AreFirstSlots l.shape (first_bucket l.shape + l.counter) l.slots.items; room : vec_capacity l.slots ≡ vec_capacity l.initial.slots }
