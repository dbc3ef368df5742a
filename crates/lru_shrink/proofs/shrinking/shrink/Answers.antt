use Rattle.map_types.specs.Stored.{Stored}
use Rattle.lru_shrink.proofs.Parts.{forced_room, forced_noted, forced_probed, shrunk_by_looks, shrunk_by_force, shrunk_leaves}
use Rattle.lru_shrink.proofs.shrinking.shrink.Goals as goal

pub forced-requires-clause-room : goal.forced-requires-clause-room
forced-requires-clause-room g c = forced_room c.args.notes.now c.if-freed-eq0.true c.looks-freed.ensures.part c.requires.target c.requires.room

pub forced-requires-clause-noted : goal.forced-requires-clause-noted
forced-requires-clause-noted g c =
    forced_noted c.args.notes.now c.if-freed-eq0.true c.looks-freed.ensures.part c.looks-freed.ensures.only c.requires.noted (g.met.P.Bits.fewer c.looks-freed.new.probe)

pub forced-requires-clause-probed : goal.forced-requires-clause-probed
forced-requires-clause-probed g c =
    forced_probed c.args.notes.now c.if-freed-eq0.true c.looks-freed.ensures.part c.looks-freed.ensures.only c.requires.probed

pub returns-then-freed-eq0-clause-shrink : goal.returns-then-freed-eq0-clause-shrink
returns-then-freed-eq0-clause-shrink g c =
    shrunk_by_force c.args.notes.now c.if-freed-eq0.true c.looks-freed.ensures.part
    c.requires.target c.forced.ensures.part (λ (body : Stored). (c.forced.ensures.only.given body).0)

pub returns-then-freed-eq0-clause-only : goal.returns-then-freed-eq0-clause-only
returns-then-freed-eq0-clause-only g c =
    shrunk_leaves c.args.notes.now c.if-freed-eq0.true c.looks-freed.ensures.part
    c.requires.target c.forced.ensures.part (λ (body : Stored). (c.forced.ensures.only.given body).0)
    c.looks-freed.ensures.only c.forced.ensures.only

pub returns-else-freed-eq0-clause-shrink : goal.returns-else-freed-eq0-clause-shrink
returns-else-freed-eq0-clause-shrink g c =
    shrunk_by_looks c.args.notes.now c.requires.target c.looks-freed.ensures.part c.if-freed-eq0.false
