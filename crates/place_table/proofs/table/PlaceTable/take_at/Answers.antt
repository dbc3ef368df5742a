use Rattle.std.proofs.Common.{rules, ap}
use Rattle.place_table.proofs.Passes.{is_pass_taken, takes_of}
use Rattle.place_table.proofs.table.PlaceTable.take_at.Goals as goal

pub invariant_of-pass : goal.invariant_of-pass
invariant_of-pass g c =
    let out = c.in-Some.ensures.out in
    is_pass_taken _ _ _ _ _ _ _ _ c.pass.invariant c.take_lock.ensures.took out.0 out.1 out.3

pub returns : goal.returns
returns g c =
    let out = c.in-Some.ensures.out in
    takes_of c.args.self.now c.args.lock c.args.pass.now _ c.in-Some.content _ _ c.pass.inside.seat.me c.take_lock.new.seat.me c.unload.new.seat.me out.0 c.requires.there c.requires.begun c.pass.invariant.within c.pass.invariant.hands_real c.requires.of_table.1 (search rules) (search rules) (ap (λ z. z.view) c.pass.view_is)
    c.take_lock.ensures.took out.1 out.2 out.3 (search rules)
