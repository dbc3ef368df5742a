use Rattle.std.proofs.Common.{arith}
use Rattle.percpu_values.proofs.PartLemmas.{seen_room, seen_filled, seen_written}
use Rattle.percpu_values.proofs.values.Values.write_own.Goals as goal

pub write_at-requires : goal.write_at-requires
write_at-requires c =
    let own = c.self.inside in
    let room = seen_room own.parts own.size c.args.part own.bytes c.args.value.now _ c.self.view_is c.self.invariant c.requires.in_range c.requires.exact in
    omega (arith, room)

pub invariant_of-self : goal.invariant_of-self
invariant_of-self c =
    let own = c.self.inside in
    seen_filled own.parts own.size c.args.part own.bytes own.bytes c.write_at.new.self c.args.value.now _ c.self.view_is c.self.invariant c.requires.in_range c.requires.exact c.self.invariant c.write_at.ensures

pub returns : goal.returns
returns c =
    let own = c.self.inside in
    seen_written own.parts own.size c.args.part own.bytes c.write_at.new.self c.args.value.now _ c.self.view_is c.self.invariant c.requires.in_range c.requires.exact c.write_at.ensures
