use Rattle.std.proofs.Common.{◌≡◌, ℕ, ◌+◌, ◌<◌, ◌++◌, ◌∙◌, List, None, length, map, take, get_or, ap, sym, subst, arith, Option}
use Rattle.std.specs.Slots.{slots_items, slots_filled}
use Rattle.map_types.proofs.CreationLemmas.{bounds_of_shape}
use Rattle.place_words.specs.Locks.{first_bucket, first_freelist, lock_count}
use Rattle.place_table.specs.declared.content.Behind.{Behind}
use Rattle.place_table.specs.declared.content.Content.{Content}
use Rattle.place_table.specs.Leaving.{HasSizedBodies, HaveHistories, bodies_in}
use Rattle.place_table.proofs.Leaves.{all_apart, emptied_by, first_taken, if_ok_both}
use Rattle.place_table.proofs.close.empty_out.Goals as goal

pub take_lists-requires-clause-before : goal.take_lists-requires-clause-before
take_lists-requires-clause-before c = first_taken (slots_filled c.args.closed.now.slots) (λ k below. c.requires.full.0 k (omega arith) (subst (λ (n : ℕ). k < n) (sym c.args.closed.now.slots.ok.1) below))

pub take_buckets-copied-requires-clause-sized : goal.take_buckets-copied-requires-clause-sized
take_buckets-copied-requires-clause-sized c = λ bucket within.
    subst (λ (l : List Behind). HasSizedBodies c.args.shape.now (get_or (map (λ (b : Behind). b.content) l) (first_bucket c.args.shape.now + bucket) None)) (sym c.take_lists.ensures.same) (c.requires.sized bucket within)

pub returns-clause-apart : goal.returns-clause-apart
returns-clause-apart c =
    let shape = c.args.shape.now in
    let slots : List Behind = slots_items c.args.closed.now.slots in
    let counted : length slots ≡ lock_count shape = sym c.args.closed.now.slots.ok.0 ∙ c.requires.full.1 in
    if_ok_both _ _ _ c.lists_left-told.result (λ left sets locals.
    all_apart shape slots c.replace.result.items c.take_behind.new.contents.items left c.take_buckets-copied.new.buckets.items counted
    (subst (λ (l : List (Option Content)). take (first_bucket shape) (map (λ (b : Behind). b.content) slots) ≡ take 0 (map (λ (b : Behind). b.content) slots) ++ l) (sym (ap (λ z. z.items) c.replace.ensures.value)) c.take_lists.ensures.contents)
    (subst (λ (l : List Behind). take (first_freelist shape) (map (λ (b : Behind). bodies_in b.content) l) ≡ take (first_bucket shape) (map (λ (b : Behind). bodies_in b.content) l) ++ c.take_buckets-copied.new.buckets.items) c.take_lists.ensures.same c.in_ok-copied.ensures.buckets)
    (subst (λ (l : List Behind). take (lock_count shape) (map (λ (b : Behind). b.content) l) ≡ take (first_freelist shape) (map (λ (b : Behind). b.content) l) ++ c.take_behind.new.contents.items) (c.take_buckets-copied.ensures.same ∙ c.take_lists.ensures.same) c.take_behind.ensures.contents)
    sets locals) c.lists_left-told.ensures.sets c.lists_left-told.ensures.locals

pub returns-in_err-copied-clause-emptied : goal.returns-in_err-copied-clause-emptied
returns-in_err-copied-clause-emptied c =
    let shape = c.args.shape.now in
    let slots : List Behind = slots_items c.args.closed.now.slots in
    let counted : length slots ≡ lock_count shape = sym c.args.closed.now.slots.ok.0 ∙ c.requires.full.1 in
    let same = c.take_lists.ensures.same in
    emptied_by shape slots _ counted c.take_buckets-copied.ensures.counted c.take_behind.ensures.many c.take_lists.ensures.few
    (omega (arith, c.take_lists.ensures.room, c.requires.room.room_for_histories))
    (λ log lost told. c.take_buckets-copied.ensures.counts log lost (subst (λ (l : List Behind). HaveHistories shape log lost (map (λ (b : Behind). b.history) l)) (sym same) told))
    (subst (λ (l : List Behind). take (lock_count shape) (map (λ (b : Behind). b.history) l) ≡ take (first_freelist shape) (map (λ (b : Behind). b.history) l) ++ c.take_behind.new.turns.items) (c.take_buckets-copied.ensures.same ∙ same) c.take_behind.ensures.turns)
    (λ log lost told. c.take_lists.ensures.histories log lost told (record { kept_are = c.requires.room.no_histories; lost_is = c.requires.room.none_lost }))

pub returns-clause-emptied : goal.returns-clause-emptied
returns-clause-emptied c =
    let shape = c.args.shape.now in
    let slots : List Behind = slots_items c.args.closed.now.slots in
    let counted : length slots ≡ lock_count shape = sym c.args.closed.now.slots.ok.0 ∙ c.requires.full.1 in
    let same = c.take_lists.ensures.same in
    emptied_by shape slots _ counted c.take_buckets-copied.ensures.counted c.take_behind.ensures.many c.take_lists.ensures.few
    (omega (arith, c.take_lists.ensures.room, c.requires.room.room_for_histories))
    (λ log lost told. c.take_buckets-copied.ensures.counts log lost (subst (λ (l : List Behind). HaveHistories shape log lost (map (λ (b : Behind). b.history) l)) (sym same) told))
    (subst (λ (l : List Behind). take (lock_count shape) (map (λ (b : Behind). b.history) l) ≡ take (first_freelist shape) (map (λ (b : Behind). b.history) l) ++ c.take_behind.new.turns.items) (c.take_buckets-copied.ensures.same ∙ same) c.take_behind.ensures.turns)
    (λ log lost told. c.take_lists.ensures.histories log lost told (record { kept_are = c.requires.room.no_histories; lost_is = c.requires.room.none_lost }))

pub returns-clause-empty : goal.returns-clause-empty
returns-clause-empty c = λ k below. c.take_behind.ensures.after.gone k
    (subst (λ (n : ℕ). k < n) (c.take_behind.ensures.count ∙ c.take_buckets-copied.ensures.count ∙ c.take_lists.ensures.count ∙ c.requires.full.1) below)

pub overflow_add-first_set : goal.overflow_add-first_set
overflow_add-first_set c = let bounds = bounds_of_shape c.args.shape.now c.requires.shape in omega arith

pub overflow_add-first_bucket : goal.overflow_add-first_bucket
overflow_add-first_bucket c = let bounds = bounds_of_shape c.args.shape.now c.requires.shape in omega arith

pub overflow_add-first_freelist : goal.overflow_add-first_freelist
overflow_add-first_freelist c = let bounds = bounds_of_shape c.args.shape.now c.requires.shape in omega arith

pub overflow_add-past : goal.overflow_add-past
overflow_add-past c = let bounds = bounds_of_shape c.args.shape.now c.requires.shape in omega arith
