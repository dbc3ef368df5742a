use Rattle.std.proofs.Common.{◌<◌, length, sym, ap, ◌∙◌, arith}
use Rattle.map_types.specs.declared.kind.DomainId.TheVariants.{Local}
use Rattle.place_words.specs.Entries.{entry_read}
use Rattle.place_words.specs.Histories.{in_locals}
use Rattle.replay_words.proofs.Steps.{none_lead, more_lead, flaw_at}
use Rattle.local_replay.specs.Replays.{IsTurn}
use Rattle.local_replay.proofs.LocalSteps.{steps, refused, noted}
use Rattle.local_replay.proofs.NoteSteps.{noted_more}
use Rattle.local_replay.proofs.replay.replay_local.Goals as goal

pub loop-i-init : goal.loop-i-init
loop-i-init c = record {
  leads = none_lead c.args.shape.now (Local c.args.cpu) c.args.entries.now (in_locals c.new-lists.result) (ap in_locals (sym c.new-lists.ensures));
  noted = c.of-notes.ensures ∙ c.new.ensures.items;
}

pub returns-in_default : goal.returns-in_default
returns-in_default c =
    let entry = entry_read c.at-entry.result in
    let within : c.loop-i.i < length c.args.entries.now = omega (arith, c.loop-i-test.true, c.len-i-end.ensures) in
    flaw_at c.args.shape.now (Local c.args.cpu) c.args.entries.now c.loop-i.i (in_locals c.loop-i.lists) entry entry c.loop-i.invariant.leads within (sym (c.at-entry.ensures.whatever entry))
    (c.in_default.ensures c.args.shape.now c.loop-i.lists)

pub returns-in_default-2 : goal.returns-in_default-2
returns-in_default-2 c =
    let entry = entry_read c.at-entry.result in
    let within : c.loop-i.i < length c.args.entries.now = omega (arith, c.loop-i-test.true, c.len-i-end.ensures) in
    flaw_at c.args.shape.now (Local c.args.cpu) c.args.entries.now c.loop-i.i (in_locals c.loop-i.lists) entry entry c.loop-i.invariant.leads within (sym (c.at-entry.ensures.whatever entry))
    (refused c.args.shape.now entry.cpu entry.part c.in-Some.packed.now c.loop-i.lists c.in-Some.ensures (rw c.in_default-2.is at c.in_ok-note.ensures))

pub loop-i-preserved : goal.loop-i-preserved
loop-i-preserved c =
    let entry = entry_read c.at-entry.result in
    let within : c.loop-i.i < length c.args.entries.now = omega (arith, c.loop-i-test.true, c.len-i-end.ensures) in
    let turn : IsTurn c.args.shape.now c.in-Some.packed.now c.loop-i.lists c.packed_turn.new.lists c.in-Some-2.note = rw c.in-Some-2.is at c.in_ok-note.ensures in
    record {
      leads = more_lead c.args.shape.now (Local c.args.cpu) c.args.entries.now c.loop-i.i (in_locals c.loop-i.lists) (in_locals c.packed_turn.new.lists) entry entry c.loop-i.invariant.leads within (sym (c.at-entry.ensures.whatever entry))
          (steps c.args.shape.now entry.cpu entry.part c.in-Some.packed.now c.loop-i.lists c.in-Some.ensures c.packed_turn.new.lists turn.allowed turn.leads);
      noted = noted_more c.args.shape.now (Local c.args.cpu) c.args.entries.now c.loop-i.i entry entry (in_locals c.loop-i.lists) c.loop-i.notes c.push.new.self c.in-Some-2.note within (sym (c.at-entry.ensures.whatever entry))
          c.loop-i.invariant.leads.left c.loop-i.invariant.noted (noted c.args.shape.now entry.cpu entry.part c.in-Some.packed.now c.loop-i.lists c.in-Some.ensures c.in-Some-2.note turn.noted) c.in_ok-push.ensures.added;
    }
