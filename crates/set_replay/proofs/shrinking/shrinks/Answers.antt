use Rattle.set_replay.proofs.ShrinkLemmas.{judged_told}
use Rattle.set_replay.proofs.shrinking.shrinks.Goals as goal

pub returns : goal.returns
returns g c =
    judged_told c.args.scans c.args.note.now c.args.set.now c.shrink_told.new.set c.args.out.now c.shrink_told.new.out c.shrink_told.new.calls.probes.items c.in_ok-notes.notes c.in_ok-first.first c.in_ok-second.second
    c.as_slice-looks.result.now c.as_slice-forced.result.now c.in_ok-bits.bits.items c.as_slice.result.now c.in_ok-seens.seens.items c.as_slice-2.result.now
    c.as_slice-looks.ensures c.as_slice-forced.ensures c.as_slice.ensures.value c.in_ok-bits.ensures c.as_slice-2.ensures.value c.in_ok-seens.ensures
    c.in_ok-notes.ensures c.in_ok-first.ensures c.in_ok-second.ensures
