use Rattle.std.proofs.Common.{◌≡◌, ◌<◌, ◌≤◌, ◌-◌, min, length, ap, ◌∙◌, arith}
use Rattle.lru_rotate.proofs.InactiveSteps.{inactive_begins}
use Rattle.lru_rotate.proofs.InactiveStep.{inactive_step, inactive_ends, inactive_goes_on, inactive_was_there, inactive_made}
use Rattle.lru_rotate.proofs.AskingLemmas.{only_none, only_more, none_less, less_one}
use Rattle.lru_rotate.proofs.inactive.visit_inactive.Goals as goal

pub visit_at-next-requires-clause-some : goal.visit_at-next-requires-clause-some
visit_at-next-requires-clause-some g c =
    let long : c.len.result ≡ length c.args.set.now.inactive = c.len.ensures ∙ ap length c.rows.ensures.exact in
    let within : c.loop.counter < length c.args.set.now.inactive = omega arith in
    inactive_goes_on _ _ _ _ _ _ _ _ _ within c.loop.invariant.so_far

pub visit_at-next-requires-clause-place : goal.visit_at-next-requires-clause-place
visit_at-next-requires-clause-place g c = c.loop.invariant.so_far.at_placed

pub visit_at-next-requires-clause-noted : goal.visit_at-next-requires-clause-noted
visit_at-next-requires-clause-noted g c =
    let left : 1 ≤ c.args.scans - c.loop.counter = omega arith in
    g.met.B.Bits.fewer c.loop.bits 1 (c.args.scans - c.loop.counter) left (c.loop.invariant.room c.args.scans c.requires.noted)

pub visit_at-next-requires-clause-asked : goal.visit_at-next-requires-clause-asked
visit_at-next-requires-clause-asked g c e is =
    c.loop.invariant.only.asked e (c.requires.asked e (inactive_was_there _ _ _ _ _ _ _ _ _ e c.loop.invariant.so_far is))

pub loop-init : goal.loop-init
loop-init g c = record {
  so_far = rw c.cursor-at.ensures.exact (inactive_begins c.args.set.now _ _ c.cursor-at.ensures.whole);
  whole = c.cursor-at.ensures.whole;
  room = λ n can. none_less (g.B.Bits.can_note c.args.bits.now) n can;
  only = only_none g.B.Bits.may_ask g.B.Bits.probes g.B.Bits.may_probe g.B.Bits.gives g.B.Bits.lender c.args.bits.now;
}

pub loop-preserved : goal.loop-preserved
loop-preserved g c =
    let long : c.len.result ≡ length c.args.set.now.inactive = c.len.ensures ∙ ap length c.rows.ensures.exact in
    let within : c.loop.counter < length c.args.set.now.inactive = omega arith in
    record {
      so_far = inactive_step _ _ _ _ _ _ _ _ _ _ _ _ _ _ c.cursor-at.ensures.whole c.loop.invariant.whole within c.loop.invariant.so_far c.visit_at-next.ensures.here c.visit_at-next.ensures.next c.visit_at-next.ensures.set c.visit_at-next.ensures.call c.note.ensures;
      whole = c.visit_at-next.ensures.whole;
      room = λ n can. less_one (g.B.Bits.can_note c.visit_at-next.new.bits) n c.loop.counter (c.visit_at-next.ensures.noted (n - c.loop.counter) (c.loop.invariant.room n can));
      only = only_more g.B.Bits.may_ask g.B.Bits.probes g.B.Bits.may_probe g.B.Bits.gives g.B.Bits.lender c.args.bits.now c.loop.bits c.visit_at-next.new.bits c.loop.invariant.only c.visit_at-next.ensures.only;
    }

pub returns-clause-part : goal.returns-clause-part
returns-clause-part g c =
    let long : c.len.result ≡ length c.args.set.now.inactive = c.len.ensures ∙ ap length c.rows.ensures.exact in
    let all : c.loop.counter ≡ min c.args.scans (length c.args.set.now.inactive) = omega arith in
    inactive_ends _ _ _ _ _ _ _ _ _ _ _ all c.set_cursor.ensures.exact c.loop.invariant.so_far

pub returns-clause-noted : goal.returns-clause-noted
returns-clause-noted g c n can =
    let long : c.len.result ≡ length c.args.set.now.inactive = c.len.ensures ∙ ap length c.rows.ensures.exact in
    let within : c.loop.counter ≤ length c.args.set.now.inactive = omega arith in
    let made : length (g.B.Bits.calls c.loop.bits) - length (g.B.Bits.calls c.args.bits.now) ≡ c.loop.counter = inactive_made _ _ _ _ _ _ _ _ _ within c.loop.invariant.so_far in
    rw made (c.loop.invariant.room n can)
