use Rattle.std.proofs.Common.{◌∙◌, ◌+◌, ◌<◌, refl, sym, subst, arith}
use Rattle.place_words.specs.Locks.{lock_count}
use Rattle.record_reading.proofs.HistoryLemmas.{HistoriesSoFar, histories_start, histories_over, histories_empty, histories_more, histories_none, histories_done}
use Rattle.record_reading.proofs.histories.read_histories.Goals as goal

pub loop-number-init : goal.loop-number-init
loop-number-init c = (histories_start c.args.script.now c.next_head-head.result c.args.lines.now.0 c.of-histories.result c.next_head-head.ensures (cc), refl)

pub loop-number-preserved-then-not-is_lock : goal.loop-number-preserved-then-not-is_lock
loop-number-preserved-then-not-is_lock c =
    let less : c.loop-number.number < lock_count c.args.script.now.shape = subst (λ n. c.loop-number.number < n) c.count_locks-number-end.ensures c.loop-number-test.true in (
      histories_over c.args.script.now c.loop-number.number c.loop-number.head c.args.lines.now.0 c.loop-number.lines.0 c.loop-number.histories c.loop-number.invariant.0 less c.lock_named-lock.result c.lock_named-lock.ensures c.is_lock.result c.is_lock.ensures c.if-not-is_lock.true,
      c.loop-number.invariant.1,
    )

pub loop-number-preserved-in_default : goal.loop-number-preserved-in_default
loop-number-preserved-in_default c =
    let less : c.loop-number.number < lock_count c.args.script.now.shape = subst (λ n. c.loop-number.number < n) c.count_locks-number-end.ensures c.loop-number-test.true in (
      subst (HistoriesSoFar c.args.script.now (c.loop-number.number + 1) c.loop-number.head c.args.lines.now.0 c.loop-number.lines.0) (sym c.in_ok-push.ensures.added)
          (histories_empty c.args.script.now c.loop-number.number c.loop-number.head c.args.lines.now.0 c.loop-number.lines.0 c.loop-number.histories c.loop-number.invariant.0 less c.lock_named-lock.result c.lock_named-lock.ensures c.is_lock.result c.is_lock.ensures c.if-not-is_lock.false
          c.len-calls.result c.len-calls.ensures c.entries_due.result c.entries_due.ensures c.in_default.is c.none_of.result c.none_of.ensures),
      c.loop-number.invariant.1,
    )

pub returns-in_default-2-clause-lines : goal.returns-in_default-2-clause-lines
returns-in_default-2-clause-lines c =
    let less : c.loop-number.number < lock_count c.args.script.now.shape = subst (λ n. c.loop-number.number < n) c.count_locks-number-end.ensures c.loop-number-test.true in
    histories_none c.args.script.now c.loop-number.number c.loop-number.head c.args.lines.now.0 c.loop-number.lines.0 c.loop-number.histories c.loop-number.invariant.0 less c.lock_named-lock.result c.lock_named-lock.ensures c.is_lock.result c.is_lock.ensures c.if-not-is_lock.false
    c.len-calls.result c.len-calls.ensures c.entries_due.result c.entries_due.ensures c.in-Some.count c.in-Some.is c.pass.new.self.0 c.pass.ensures.lines c.read_entries.new.lines.0 c.in_ok-entries.field-0 c.in_ok-entries.ensures.lines c.in_default-2.is

pub loop-number-preserved : goal.loop-number-preserved
loop-number-preserved c =
    let less : c.loop-number.number < lock_count c.args.script.now.shape = subst (λ n. c.loop-number.number < n) c.count_locks-number-end.ensures c.loop-number-test.true in (
      subst (HistoriesSoFar c.args.script.now (c.loop-number.number + 1) c.next_head-head-in-loop-number.result c.args.lines.now.0 c.read_entries.new.lines.0) (sym c.in_ok-push-2.ensures.added)
          (histories_more c.args.script.now c.loop-number.number c.loop-number.head c.args.lines.now.0 c.loop-number.lines.0 c.loop-number.histories c.loop-number.invariant.0 less c.lock_named-lock.result c.lock_named-lock.ensures c.is_lock.result c.is_lock.ensures c.if-not-is_lock.false
          c.len-calls.result c.len-calls.ensures c.entries_due.result c.entries_due.ensures c.in-Some.count c.in-Some.is c.pass.new.self.0 c.pass.ensures.lines c.read_entries.new.lines.0 c.in_ok-entries.field-0 c.in_ok-entries.ensures.lines
          c.in-Some-2.entries c.in-Some-2.is c.next_head-head-in-loop-number.result c.next_head-head-in-loop-number.ensures),
      c.read_entries.ensures.rest ∙ c.pass.ensures.rest ∙ c.loop-number.invariant.1,
    )

pub returns-clause-lines : goal.returns-clause-lines
returns-clause-lines c =
    histories_done c.args.script.now c.loop-number.number c.loop-number.head c.args.lines.now.0 c.loop-number.lines.0 c.loop-number.histories c.loop-number.invariant.0 (omega (arith, c.count_locks-number-end.ensures, c.loop-number-test.false))
