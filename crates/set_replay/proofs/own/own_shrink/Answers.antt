use Rattle.std.proofs.Common.{ap, sym, ◌∙◌, arith, length, map, Some, ◌+◌}
use Rattle.lru_lists.specs.declared.bits.ProbeCall.{ProbeCall}
use Rattle.set_replay.proofs.SetRoom.{room_listed}
use Rattle.set_replay.proofs.OwnLemmas.{own_shrunk}
use Rattle.set_replay.proofs.own.own_shrink.Goals as goal

pub shrinks-requires-clause-room : goal.shrinks-requires-clause-room
shrinks-requires-clause-room g c =
    omega (arith, room_listed c.args.set.now c.free_len.ensures.whole c.requires, ap (λ z. length z.active + length z.inactive) c.swap_free.ensures.exact, ap (λ z. z.spare) c.swap_free.ensures.other)

pub returns-then-lawful : goal.returns-then-lawful
returns-then-lawful g c =
    own_shrunk c.args.note.now c.args.set.now c.swap_free.new.self c.shrinks.new.set c.swap_free-2.new.self c.empty-freed.result c.swap_free.new.other c.shrinks.new.out
    c.shrinks.new.calls.probes.items c.in_ok-hashes_of.field-0 c.in_ok-lawful.lawful
    c.requires (sym c.free_len.ensures.exact ∙ c.if-free_len-ne0.false) c.if-note-ne-TARGET.false c.swap_free.ensures.exact c.swap_free.ensures.other c.if-lawful.true c.in_ok-lawful.ensures c.swap_free-2.ensures.exact
    (c.in_ok-hashes_of.ensures ∙ ap (map (λ (probe : ProbeCall). Some probe.hash)) c.deref.ensures.value)
