use Rattle.std.proofs.Common.{◌<◌, ◌≤◌, length, subst, refl, sym, ◌∙◌, arith}
use Rattle.place_words.specs.declared.history.Entry.{Entry}
use Rattle.map_types.specs.declared.kind.DomainId.TheVariants as locks
use Rattle.place_words.specs.Entries.{entry_read}
use Rattle.place_words.specs.Histories.{in_own}
use Rattle.set_replay.specs.Replayed.{EntryJudged}
use Rattle.set_replay.proofs.Replaying.{begins, goes_on, stops, all_made}
use Rattle.set_replay.proofs.replay.replay_own.Goals as goal

pub loop-i-init : goal.loop-i-init
loop-i-init c =
    begins {shape = c.args.shape.now} {lock = locks.CpuLru c.args.cpu} {entries = c.args.entries.now} in_own c.in_ok-set.set c.of-notes.result refl c.in_ok-set.ensures (c.of-notes.ensures ∙ c.new.ensures.items)

pub returns-in_default : goal.returns-in_default
returns-in_default c =
    let entry : Entry = entry_read c.at.result in
    let within : c.loop-i.i < length c.args.entries.now = omega (arith, c.loop-i-test.true, c.len-i-end.ensures) in
    stops in_own c.loop-i.invariant entry entry within (sym (c.at.ensures.whatever entry))
    (subst (EntryJudged in_own entry.part c.loop-i.set c.own_entry.new.set) c.in_default.is c.in_ok-note.ensures)

pub loop-i-preserved : goal.loop-i-preserved
loop-i-preserved c =
    let entry : Entry = entry_read c.at.result in
    let within : c.loop-i.i < length c.args.entries.now = omega (arith, c.loop-i-test.true, c.len-i-end.ensures) in
    goes_on in_own c.loop-i.invariant entry entry within (sym (c.at.ensures.whatever entry)) c.own_entry.new.set c.in-Some.note c.push.new.self c.in_ok-push.ensures.added
    (subst (EntryJudged in_own entry.part c.loop-i.set c.own_entry.new.set) c.in-Some.is c.in_ok-note.ensures)

pub returns : goal.returns
returns c =
    let past : length c.args.entries.now ≤ c.loop-i.i = omega (arith, c.loop-i-test.false, c.len-i-end.ensures) in
    all_made in_own (record { last = c.in_ok-final_of.field-0; notes = c.loop-i.notes }) c.loop-i.invariant past c.in_ok-final_of.ensures refl
