use Rattle.std.proofs.Common.{◌≡◌, ◌≢◌, ℕ, ◌<◌, List, length, ap, sym, ◌∙◌, subst, arith}
use Rattle.std.proofs.lemmas.List.{take_at}
use Rattle.map_types.specs.declared.reply.Reply.{Reply}
use Rattle.map_types.proofs.CreationLemmas.{bounds_of_shape}
use Rattle.map_batch.specs.Calls.{table_of}
use Rattle.file_order.specs.Replies.{count_of, replies_by, replies_of}
use Rattle.map_run.proofs.BesideRaced.{left_counted, raced_beside}
use Rattle.map_run.proofs.copy_race.join_beside.Goals as goal

pub take_first-reads-requires : goal.take_first-reads-requires
take_first-reads-requires c =
    let t = table_of c.args.source.now in
    let some = (bounds_of_shape t.shape c.requires.shape).some_cpu in
    let joined = c.in_ok-replies.ensures.joined c.requires.ended.0 _ c.requires.ended.1 c.requires.ended.3 in
    let long = joined.workers in
    let lent = ap length c.as_mut_slice.ensures.value in
    omega (arith, some, long, lent)

pub in_file_order-requires-clause-counted : goal.in_file_order-requires-clause-counted
in_file_order-requires-clause-counted c =
    let t = table_of c.args.source.now in
    let vec = c.in_ok-replies.field-0.replies in
    let queues : List (List Reply) = c.take_first-reads.new.queues in
    let lent : c.as_mut_slice.result.now ≡ vec.items = c.as_mut_slice.ensures.value in
    let long : length queues ≡ length vec.items = c.take_first-reads.auto.queues ∙ ap length lent in
    let same : (cpu : ℕ) → cpu ≢ 0 → replies_by cpu queues ≡ replies_by cpu vec.items = λ cpu apart. c.take_first-reads.ensures.others cpu apart ∙ ap (replies_by cpu) lent in
    let joined = c.in_ok-replies.ensures.joined c.requires.ended.0 _ c.requires.ended.1 c.requires.ended.3 in
    subst (λ (l : List (List Reply)). (cpu : ℕ) → cpu < length l → length (replies_by cpu l) ≡ count_of cpu c.args.calls.now) (sym (take_at queues _ vec.len (long ∙ sym vec.ok.0)))
    (left_counted t c.requires.ended.0 c.args.calls.now c.requires.ended.2 c.requires.ended.1 c.join_workers.new.pass vec.items queues c.in_ok-replies.field-0.counts.items c.requires.shape c.requires.others joined c.take_first-reads.ensures.none same long)

pub returns-clause-raced : goal.returns-clause-raced
returns-clause-raced c number start steps ended =
    let t = table_of c.args.source.now in
    let vec = c.in_ok-replies.field-0.replies in
    let told = c.in_ok-told.told.items in
    let queues : List (List Reply) = c.take_first-reads.new.queues in
    let lent : c.as_mut_slice.result.now ≡ vec.items = c.as_mut_slice.ensures.value in
    let long : length queues ≡ length vec.items = c.take_first-reads.auto.queues ∙ ap length lent in
    let same : (cpu : ℕ) → cpu ≢ 0 → replies_by cpu queues ≡ replies_by cpu vec.items = λ cpu apart. c.take_first-reads.ensures.others cpu apart ∙ ap (replies_by cpu) lent in
    let joined = c.in_ok-replies.ensures.joined number _ start ended in
    let merged : (cpu : ℕ) → cpu < length queues → replies_of cpu c.args.calls.now told ≡ replies_by cpu queues =
    subst (λ (l : List (List Reply)). (cpu : ℕ) → cpu < length l → replies_of cpu c.args.calls.now told ≡ replies_by cpu l) (take_at queues _ vec.len (long ∙ sym vec.ok.0)) c.in_ok-told.ensures.each in
    raced_beside t number c.args.calls.now steps start c.join_workers.new.pass vec.items queues c.in_ok-replies.field-0.counts.items c.requires.shape c.requires.others joined c.take_first-reads.ensures.none same long
    told c.in_ok-all_of.field-0.items (c.in_ok-all_of.ensures ∙ (c.take_first-reads.ensures.first ∙ ap (replies_by 0) lent)) c.in_ok-told.ensures.count merged
