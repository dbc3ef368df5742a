use Rattle.std.proofs.Common.{◌≡◌, ℕ, ◌+◌, ◌*◌, ◌<◌, ◌∙◌, List, length, map, take, set, None, false, ap, sym, subst, arith}
use Rattle.std.proofs.lemmas.List.{length_push}
use Rattle.std.specs.Slots.{slots_items, slots_filled}
use mathlib.Core.Option.{some}
use lib.ListN.{get_elem?}
use Rattle.map_types.specs.Stored.{Stored}
use Rattle.place_words.specs.Locks.{lock_count, lock_named, first_bucket}
use Rattle.place_words.specs.State.{is_bucket}
use Rattle.place_table.specs.declared.content.Behind.{Behind}
use Rattle.place_table.specs.Leaving.{AreCounts, AreTaken, HasSizedBodies, bodies_in}
use Rattle.place_table.proofs.Leaves.{both_ok, bucket_named, counts_more, has_bucket, history_in, part_at, part_more, taken_more}
use Rattle.place_table.proofs.close.take_buckets.Goals as goal

pub add_bucket-copied-requires-clause-sized : goal.add_bucket-copied-requires-clause-sized
add_bucket-copied-requires-clause-sized c =
    let so_far = c.loop-bucket.invariant in
    let bucket : ℕ = c.loop-bucket.bucket in
    let shape = c.args.shape.now in
    let slots : List Behind = slots_items c.args.closed.now.slots in
    let place : first_bucket shape + bucket ≡ 2 * shape.cpus + 1 + bucket = omega arith in
    let at : get_elem? slots (first_bucket shape + bucket) ≡ some c.take-content.result =
    ap (λ (k : ℕ). get_elem? slots k) place ∙ ap (λ (l : List Behind). get_elem? l (2 * shape.cpus + 1 + bucket)) (sym so_far.same) ∙ c.take-content.ensures.value in
    subst (HasSizedBodies shape) (part_at (λ (b : Behind). b.content) slots (first_bucket shape + bucket) c.take-content.result None at) (c.requires.sized bucket c.loop-bucket-test.true)

pub loop-bucket-preserved : goal.loop-bucket-preserved
loop-bucket-preserved c =
    let so_far = c.loop-bucket.invariant in
    let others = c.take-content.ensures.others in
    let bucket : ℕ = c.loop-bucket.bucket in
    let shape = c.args.shape.now in
    let i : ℕ = first_bucket shape + bucket in
    let slots : List Behind = slots_items c.args.closed.now.slots in
    let behind : Behind = c.take-content.result in
    let below : bucket < shape.buckets = c.loop-bucket-test.true in
    let place : i ≡ 2 * shape.cpus + 1 + bucket = omega arith in
    let next : i + 1 ≡ first_bucket shape + (bucket + 1) = omega arith in
    let within : i < length slots = omega (arith, c.args.closed.now.slots.ok.0, c.requires.counted, below) in
    let real : i < lock_count shape = omega (arith, below) in
    let filled : i < length c.loop-bucket.closed.slots.filled = omega (arith, c.loop-bucket.closed.slots.ok.1, so_far.count, c.requires.counted, below) in
    let at : get_elem? slots i ≡ some behind =
    ap (λ (k : ℕ). get_elem? slots k) place ∙ ap (λ (l : List Behind). get_elem? l (2 * shape.cpus + 1 + bucket)) (sym so_far.same) ∙ c.take-content.ensures.value in
    let one_more = ap length c.push_reserved.ensures.items ∙ length_push c.loop-bucket.counts.items c.turns_counted.result in
    let bodies : List (List Stored) = map (λ (b : Behind). bodies_in b.content) slots in record {
      same = others.0 ∙ so_far.same;
      count = others.2 ∙ so_far.count;
      taken = subst (λ (k : ℕ). AreTaken k (slots_filled c.take-content.new.self.slots)) next
          (subst (AreTaken (i + 1)) (sym (others.1 ∙ ap (λ (k : ℕ). set c.loop-bucket.closed.slots.filled k false) (sym place))) (taken_more c.loop-bucket.closed.slots.filled i filled so_far.taken));
      buckets = both_ok c.loop-bucket.copied c.add_bucket-copied.result c.add_bucket-copied.ensures.added so_far.buckets
          (λ done added. ap (λ (k : ℕ). take k bodies) (sym next)
          ∙ part_more (λ (b : Behind). bodies_in b.content) slots i behind (take (first_bucket shape) bodies) c.loop-bucket.buckets.items _ within at done added);
      many = omega (arith, c.add_bucket-copied.ensures.longer, so_far.many);
      room = c.add_bucket-copied.ensures.capacity ∙ so_far.room;
      room_for_counts = c.push_reserved.ensures.capacity ∙ so_far.room_for_counts;
      counts = λ log lost told.
          counts_more shape log lost bucket c.loop-bucket.counts.items _ c.turns_counted.result
          (c.turns_counted.ensures (lock_named shape i) (lost i) (log i) (ap is_bucket (bucket_named shape bucket below)) (history_in shape log lost slots i behind told real at (has_bucket shape bucket below)))
          c.push_reserved.ensures.items (so_far.counts log lost told);
      counted = omega (arith, one_more, so_far.counted);
    }

pub returns-clause-counts : goal.returns-clause-counts
returns-clause-counts c = λ log lost told.
    let all : c.loop-bucket.bucket ≡ c.args.shape.now.buckets = omega arith in
    subst (λ (n : ℕ). AreCounts c.args.shape.now log lost n c.loop-bucket.counts.items) all (c.loop-bucket.invariant.counts log lost told)
