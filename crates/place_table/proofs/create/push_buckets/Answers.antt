use Rattle.std.proofs.Common.{◌≡◌, ℕ, ◌+◌, ◌∙◌, ◌<◌, subst, arith}
use Rattle.place_words.specs.Locks.{first_bucket}
use Rattle.place_table.specs.Opening.{AreFirstSlots}
use Rattle.place_table.proofs.FirstSlots.{slots_more}
use Rattle.place_table.proofs.create.push_buckets.Goals as goal

pub loop-preserved : goal.loop-preserved
loop-preserved c =
    let within : c.loop.counter < c.args.shape.now.buckets = omega arith in
    let next : first_bucket c.args.shape.now + c.loop.counter + 1 ≡ first_bucket c.args.shape.now + (c.loop.counter + 1) = omega arith in record {
      are = subst (λ (n : ℕ). AreFirstSlots c.args.shape.now n c.push_reserved.new.self.items) next
          (slots_more c.args.shape.now c.loop.slots.items c.push_reserved.new.self.items _ (first_bucket c.args.shape.now + c.loop.counter) c.loop.invariant.are (c.bucket_slot.ensures c.args.shape.now c.loop.counter within) c.push_reserved.ensures.items);
      room = c.push_reserved.ensures.capacity ∙ c.loop.invariant.room;
    }
