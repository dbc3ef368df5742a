use Rattle.std.proofs.Common.{◌≡◌, ◌<◌, ◌≤◌, ◌-◌, min, length, ap, ◌∙◌, arith}
use Rattle.lru_rotate.proofs.ActiveSteps.{active_step, active_ends, active_idle, active_goes_on, active_was_there, active_made}
use Rattle.lru_rotate.proofs.AskingLemmas.{only_more, less_one}
use Rattle.lru_rotate.proofs.active.visit_active.Goals as goal

pub visit_tail-requires-clause-some : goal.visit_tail-requires-clause-some
visit_tail-requires-clause-some g c =
    let long : c.len-active.result ≡ length c.args.set.now.active = c.len-active.ensures ∙ ap length c.rows.ensures.exact in
    let within : c.loop.counter < length c.args.set.now.active = omega arith in
    active_goes_on _ _ _ _ _ _ _ c.rows.ensures.whole c.loop.invariant.whole within c.loop.invariant.so_far

pub visit_tail-requires-clause-noted : goal.visit_tail-requires-clause-noted
visit_tail-requires-clause-noted g c =
    let left : 1 ≤ c.args.scans - c.loop.counter = omega arith in
    g.met.B.Bits.fewer c.loop.bits 1 (c.args.scans - c.loop.counter) left (c.loop.invariant.room c.args.scans c.requires.noted)

pub visit_tail-requires-clause-asked : goal.visit_tail-requires-clause-asked
visit_tail-requires-clause-asked g c e is =
    c.loop.invariant.only.asked e (c.requires.asked e (active_was_there _ _ _ _ _ _ _ e c.loop.invariant.so_far is))

pub loop-preserved : goal.loop-preserved
loop-preserved g c =
    let long : c.len-active.result ≡ length c.args.set.now.active = c.len-active.ensures ∙ ap length c.rows.ensures.exact in
    let within : c.loop.counter < length c.args.set.now.active = omega arith in
    record {
      so_far = active_step c.loop.counter c.args.set.now c.loop.set c.visit_tail.new.set (g.B.Bits.calls c.args.bits.now) (g.B.Bits.calls c.loop.bits) (g.B.Bits.calls c.visit_tail.new.bits) c.args.notes.now c.loop.notes c.note.new.self c.visit_tail.result c.rows.ensures.whole c.loop.invariant.whole within c.loop.invariant.so_far c.visit_tail.ensures.tail c.visit_tail.ensures.set c.visit_tail.ensures.call c.note.ensures;
      whole = c.visit_tail.ensures.whole;
      room = λ n can. less_one (g.B.Bits.can_note c.visit_tail.new.bits) n c.loop.counter (c.visit_tail.ensures.noted (n - c.loop.counter) (c.loop.invariant.room n can));
      only = only_more g.B.Bits.may_ask g.B.Bits.probes g.B.Bits.may_probe g.B.Bits.gives g.B.Bits.lender c.args.bits.now c.loop.bits c.visit_tail.new.bits c.loop.invariant.only c.visit_tail.ensures.only;
    }

pub returns-after-loop-clause-part : goal.returns-after-loop-clause-part
returns-after-loop-clause-part g c =
    let long : c.len-active.result ≡ length c.args.set.now.active = c.len-active.ensures ∙ ap length c.rows.ensures.exact in
    let other : c.len.result ≡ length c.args.set.now.inactive = c.len.ensures ∙ ap length c.rows-2.ensures.exact in
    let shorter : length c.args.set.now.inactive < length c.args.set.now.active = omega arith in
    let all : c.loop.counter ≡ min c.args.scans (length c.args.set.now.active) = omega arith in
    active_ends _ _ _ _ _ _ _ _ shorter all c.loop.invariant.so_far

pub returns-after-loop-clause-noted : goal.returns-after-loop-clause-noted
returns-after-loop-clause-noted g c n can =
    let long : c.len-active.result ≡ length c.args.set.now.active = c.len-active.ensures ∙ ap length c.rows.ensures.exact in
    let within : c.loop.counter ≤ length c.args.set.now.active = omega arith in
    let made : length (g.B.Bits.calls c.loop.bits) - length (g.B.Bits.calls c.args.bits.now) ≡ c.loop.counter = active_made _ _ _ _ _ _ _ within c.loop.invariant.so_far in
    rw made (c.loop.invariant.room n can)

pub returns-else-len-active-clause-part : goal.returns-else-len-active-clause-part
returns-else-len-active-clause-part g c =
    let long : c.len-active.result ≡ length c.args.set.now.active = c.len-active.ensures ∙ ap length c.rows.ensures.exact in
    let other : c.len.result ≡ length c.args.set.now.inactive = c.len.ensures ∙ ap length c.rows-2.ensures.exact in
    let longer : length c.args.set.now.active ≤ length c.args.set.now.inactive = omega arith in
    active_idle _ _ _ _ longer
