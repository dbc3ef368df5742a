use Rattle.std.proofs.Common.{ℕ, ◌<◌, ◌≤◌, length, subst, sym, refl, ◌∙◌, arith}
use Rattle.place_words.specs.declared.history.Entry.{Entry}
use Rattle.map_types.specs.declared.kind.DomainId.TheVariants as locks
use Rattle.place_words.specs.Entries.{entry_read}
use Rattle.place_words.specs.Histories.{in_global}
use Rattle.place_words.specs.Openings.{opening_free}
use Rattle.set_replay.specs.GlobalTurns.{GlobalEntryJudged, GlobalMade, FlushesBelow}
use Rattle.set_replay.proofs.MarkLemmas.{opening_marked}
use Rattle.set_replay.proofs.Replaying.{begins, goes_on, stops, all_made}
use Rattle.set_replay.proofs.replay.replay_global.Goals as goal

pub loop-i-init : goal.loop-i-init
loop-i-init c =
    let opened = c.in_ok-set.ensures in
    record {
      so_far = begins {shape = c.args.shape.now} {lock = locks.Global} {entries = c.args.entries.now} in_global c.in_ok-set.set c.of-notes.result refl opened.0 (c.of-notes.ensures ∙ c.new.ensures.items);
      marked = opening_marked c.args.shape.now.elements (opening_free c.args.shape.now locks.Global) c.in_ok-set.set c.in_ok-set.marks.items opened.0 opened.1;
      bound = opened.0.bound;
    }

pub global_entry-requires-clause-below : goal.global_entry-requires-clause-below
global_entry-requires-clause-below c =
    let entry : Entry = entry_read c.at.result in
    let within : c.loop-i.i < length c.args.entries.now = omega (arith, c.loop-i-test.true, c.len-i-end.ensures) in
    subst (λ (n : ℕ). FlushesBelow n entry.part) (sym c.loop-i.invariant.bound)
    (subst (λ (e : Entry). FlushesBelow c.args.shape.now.elements e.part) (c.at.ensures.whatever entry) (c.requires.below c.loop-i.i entry within))

pub returns-in_default : goal.returns-in_default
returns-in_default c =
    let entry : Entry = entry_read c.at.result in
    let within : c.loop-i.i < length c.args.entries.now = omega (arith, c.loop-i-test.true, c.len-i-end.ensures) in
    stops in_global c.loop-i.invariant.so_far entry entry within (sym (c.at.ensures.whatever entry))
    (subst (GlobalEntryJudged entry.part c.loop-i.set c.global_entry.new.set c.global_entry.new.marks.items) c.in_default.is c.in_ok-note.ensures)

pub loop-i-preserved : goal.loop-i-preserved
loop-i-preserved c =
    let entry : Entry = entry_read c.at.result in
    let within : c.loop-i.i < length c.args.entries.now = omega (arith, c.loop-i-test.true, c.len-i-end.ensures) in
    let made : GlobalMade entry.part c.loop-i.set c.global_entry.new.set c.global_entry.new.marks.items c.in-Some.note =
    subst (GlobalEntryJudged entry.part c.loop-i.set c.global_entry.new.set c.global_entry.new.marks.items) c.in-Some.is c.in_ok-note.ensures in
    record {
      so_far = goes_on in_global c.loop-i.invariant.so_far entry entry within (sym (c.at.ensures.whatever entry)) c.global_entry.new.set c.in-Some.note c.push.new.self c.in_ok-push.ensures.added made.made;
      marked = made.marked;
      bound = made.bound ∙ c.loop-i.invariant.bound;
    }

pub returns : goal.returns
returns c =
    let past : length c.args.entries.now ≤ c.loop-i.i = omega (arith, c.loop-i-test.false, c.len-i-end.ensures) in
    all_made in_global (record { last = c.in_ok-final_of.field-0; notes = c.loop-i.notes }) c.loop-i.invariant.so_far past c.in_ok-final_of.ensures refl
