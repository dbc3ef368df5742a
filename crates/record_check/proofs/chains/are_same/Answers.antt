use Rattle.std.proofs.Common.{◌≡◌, ◌∷◌, List, sym, ◌∙◌}
use Rattle.map_types.specs.Stored.{IsSized, Stored}
use Rattle.record_check.proofs.TakenOut.{first_out, one_more, rest_fits}
use Rattle.record_check.proofs.chains.are_same.Goals as goal

pub loop-place-preserved : goal.loop-place-preserved
loop-place-preserved c =
    let left : List Stored = c.loop-place.left.bodies in
    let rest : List Stored = c.take_out.new.self.bodies in
    let body : Stored = c.in-Some.body in
    let is : left ≡ body ∷ rest = first_out left rest body (sym c.in-Some.ensures.taken) c.in-Some.ensures.bodies in
    record {
      so_far = one_more c.args.kept.now c.args.chain.bodies left c.loop-place.place c.loop-place.invariant.so_far _ body rest c.loop-place-test.true is
          (sym c.index-kept-place.is ∙ c.if-not-is_same.ensures ∙ c.body-in-loop-place.ensures);
      sized = rest_fits (IsSized c.args.shape.now) left rest body is c.loop-place.invariant.sized;
    }
