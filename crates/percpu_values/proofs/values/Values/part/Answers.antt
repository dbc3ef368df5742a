use Rattle.std.proofs.Common.{ap, arith, length}
use Rattle.map_types.specs.Parts.{part_at}
use Rattle.percpu_values.proofs.PartLemmas.{part_inside, seen_inside, seen_sizes, part_at-parts_of}
use Rattle.percpu_values.proofs.values.Values.part.Goals as goal

pub piece-requires : goal.piece-requires
piece-requires c =
    let own = c.self.inside in
    let within = seen_inside own.parts own.size c.args.part own.bytes _ c.self.view_is c.requires in
    omega (arith, part_inside own.parts own.size c.args.part within, ap length c.as_slice.ensures)

pub returns-clause-bytes : goal.returns-clause-bytes
returns-clause-bytes c =
    let own = c.self.inside in
    let within = seen_inside own.parts own.size c.args.part own.bytes _ c.self.view_is c.requires in
    let at = part_at-parts_of own.parts own.size c.args.part own.bytes within in
    let seen = ap (part_at c.args.part) c.self.view_is in
    cc

pub returns-clause-one_size : goal.returns-clause-one_size
returns-clause-one_size c =
    seen_sizes c.self.inside.parts c.self.inside.size c.self.inside.bytes _ c.self.view_is c.self.invariant
