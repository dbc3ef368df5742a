use Rattle.std.proofs.Common.{◌≡◌, ℕ, ◌<◌, ◌+◌, List, length, take, sym, ap, ◌∙◌, subst, arith}
use Rattle.std.proofs.lemmas.List.{length-append, take_at}
use Rattle.std.proofs.lemmas.List.Elements.{All-get_or}
use Rattle.map_types.specs.declared.call.Call.{Call}
use Rattle.map_types.specs.declared.reply.Reply.{Reply}
use Rattle.file_order.specs.Replies.{replies_by}
use Rattle.file_order.proofs.FileOrder.{AreTaken, reply_left, reply_taken}
use Rattle.file_order.proofs.file_order.in_file_order.Goals as goal

pub unreachable-requires : goal.unreachable-requires
unreachable-requires c =
    let call = c.call-item.result in
    let lists = c.args.replies.items in
    let own : call.cpu < length lists = subst (λ (z : Call). z.cpu < length lists) (sym c.call-item.is) (All-get_or (λ (z : Call). z.cpu < length lists) c.args.calls.now c.loop-call.call-index call (omega arith) c.requires.cpus) in
    reply_left c.args.calls.now c.loop-call.call-index call c.loop-call.all.items c.loop-call.replies.items lists (omega arith) c.call-item.is (c.loop-call.invariant.each call.cpu own)
    (sym (ap (replies_by call.cpu) c.as_mut_slice.ensures.value) ∙ c.in_default.ensures.own.0)

pub loop-call-preserved : goal.loop-call-preserved
loop-call-preserved c =
    let call = c.call-item.result in
    let lists = c.args.replies.items in
    let lent = c.as_mut_slice.ensures.value in
    let after = c.next_reply.new.replies in
    let long : length after ≡ length c.loop-call.replies.items = c.next_reply.auto.replies ∙ ap length lent in
    let whole = take_at after _ c.loop-call.replies.len (long ∙ sym c.loop-call.replies.ok.0) in
    let pushed = c.in_ok-push.ensures.items in
    record {
      count = ap length pushed ∙ length-append c.loop-call.all.items _ ∙ ap (λ (k : ℕ). k + 1) c.loop-call.invariant.count;
      lists = ap length whole ∙ long ∙ c.loop-call.invariant.lists;
      each = λ cpu below. subst (λ (l : List (List Reply)). AreTaken (take (c.loop-call.call-index + 1) c.args.calls.now) c.args.calls.now c.push.new.self.items l lists cpu) (sym whole)
          (reply_taken c.args.calls.now c.loop-call.call-index call c.loop-call.all.items c.push.new.self.items c.in-Some.reply c.loop-call.replies.items after lists cpu (omega arith) c.call-item.is c.loop-call.invariant.count
          (sym (ap (replies_by call.cpu) lent) ∙ c.in-Some.ensures.own) (λ other. c.next_reply.ensures.others cpu other ∙ ap (replies_by cpu) lent) pushed (c.loop-call.invariant.each cpu below));
    }
