use Rattle.std.proofs.Common.{ap, ◌∙◌, map, Some}
use Rattle.lru_lists.specs.declared.bits.ProbeCall.{ProbeCall}
use Rattle.set_replay.proofs.GlobalLemmas.{global_shrunk}
use Rattle.set_replay.proofs.global.global_shrink.Goals as goal

pub returns-then-branch : goal.returns-then-branch
returns-then-branch g c =
    global_shrunk c.args.moved c.args.note.now c.args.set.now c.shrinks.new.set c.in_ok-freed.freed c.shrinks.new.out c.shrinks.new.calls.probes.items c.in_ok-hashes_of.field-0 c.in_ok-shrinks.field-0
    c.if-moved-ge-TARGET.false c.if-note-moved.false c.if-branch.true c.in_ok-shrinks.ensures
    (c.in_ok-hashes_of.ensures ∙ ap (map (λ (probe : ProbeCall). Some probe.hash)) c.deref.ensures.value)
