use Rattle.std.proofs.Common.{◌≡◌, ℕ, ◌*◌, arith, ap, length, ◌∙◌}
use Rattle.std.proofs.lemmas.List.{length-replicate}
use Rattle.percpu_values.proofs.PartLemmas.{seen_room, seen_filled, seen_new}
use Rattle.percpu_values.proofs.values.Values.init_own.Goals as goal

pub write_at-requires : goal.write_at-requires
write_at-requires c =
    let own = c.self.inside in
    let room = seen_room own.parts own.size c.args.part own.bytes c.args.value.now _ c.self.view_is c.self.invariant c.requires.in_range c.requires.exact in
    omega (arith, room, c.self.invariant, ap length c.fill_zero.ensures, length-replicate {A = ℕ} (length own.bytes) 0)

pub invariant_of-self : goal.invariant_of-self
invariant_of-self c =
    let own = c.self.inside in
    let blank : length c.fill_zero.new.self ≡ own.parts * own.size =
    ap length c.fill_zero.ensures ∙ length-replicate {A = ℕ} (length own.bytes) 0 ∙ c.self.invariant in
    seen_filled own.parts own.size c.args.part own.bytes c.fill_zero.new.self c.write_at.new.self c.args.value.now _ c.self.view_is c.self.invariant c.requires.in_range c.requires.exact blank c.write_at.ensures

pub returns : goal.returns
returns c =
    let own = c.self.inside in
    seen_new own.parts own.size c.args.part own.bytes c.fill_zero.new.self c.write_at.new.self c.args.value.now _ c.self.view_is c.self.invariant c.requires.in_range c.requires.exact c.fill_zero.ensures c.write_at.ensures
