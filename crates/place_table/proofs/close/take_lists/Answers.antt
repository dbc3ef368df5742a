use Rattle.std.proofs.Common.{◌≡◌, ◌⊎◌, inl, inr, ⊎_elim, ℕ, ◌+◌, ◌<◌, ◌≤◌, ◌∷◌, ◌∙◌, List, [], length, map, take, ap, sym, subst, arith}
use Rattle.std.proofs.lemmas.List.{length-append}
use Rattle.std.specs.Slots.{slots_items}
use mathlib.Core.Option.{some}
use lib.ListN.{get_elem?}
use Rattle.place_words.specs.Locks.{first_bucket, first_freelist, lock_count}
use Rattle.place_table.specs.declared.content.Behind.{Behind}
use Rattle.place_table.specs.Leaving.{AreTaken}
use Rattle.place_table.proofs.Leaves.{history_in, no_bucket_at, part_more, taken_more}
use Rattle.place_table.proofs.close.take_lists.Goals as goal

pub loop-slot-preserved : goal.loop-slot-preserved
loop-slot-preserved c =
    let so_far = c.loop-slot.invariant in
    let others = c.take-content.ensures.others in
    let i : ℕ = c.loop-slot.slot in
    let slots : List Behind = slots_items c.args.closed.now.slots in
    let behind : Behind = c.take-content.result in
    let below : i < c.args.past = c.loop-slot-test.true in
    let within : i < length slots = omega (arith, c.args.closed.now.slots.ok.0, c.requires.within, below) in
    let real : i < lock_count c.args.shape.now = omega (arith, c.requires.within, below) in
    let filled : i < length c.loop-slot.closed.slots.filled = omega (arith, c.loop-slot.closed.slots.ok.1, so_far.count, c.requires.within, below) in
    let at : get_elem? slots i ≡ some behind = ap (λ (l : List Behind). get_elem? l i) (sym so_far.same) ∙ c.take-content.ensures.value in
    let outside : (i < first_bucket c.args.shape.now) ⊎ (first_freelist c.args.shape.now ≤ i) =
    ⊎_elim (λ (before : c.args.past ≤ first_bucket c.args.shape.now). inl (omega arith)) (λ (behind_them : first_freelist c.args.shape.now ≤ c.args.first). inr (omega arith)) c.requires.no_buckets in
    let one_more = ap length c.push_reserved.ensures.items ∙ length-append c.loop-slot.contents.items (behind.content ∷ []) in record {
      same = others.0 ∙ so_far.same;
      count = others.2 ∙ so_far.count;
      taken = subst (AreTaken (i + 1)) (sym others.1) (taken_more c.loop-slot.closed.slots.filled i filled so_far.taken);
      contents = part_more (λ (b : Behind). b.content) slots i behind (take c.args.first (map (λ (b : Behind). b.content) slots)) c.loop-slot.contents.items _ within at so_far.contents c.push_reserved.ensures.items;
      so_many = omega (arith, one_more, so_far.so_many);
      room = rw c.push_reserved.ensures.capacity so_far.room;
      histories = λ log lost told before. c.keep_numbered.ensures.kept log lost
          (λ there. (no_bucket_at c.args.shape.now i outside, history_in c.args.shape.now log lost slots i behind told real at there))
          (so_far.histories log lost told before);
      room_for_histories = c.keep_numbered.ensures.capacity ∙ so_far.room_for_histories;
      few = omega (arith, c.keep_numbered.ensures.longer, so_far.few);
    }
