use Rattle.std.proofs.Common.{ℕ, List, sym, ap, ◌∙◌}
use Rattle.trace_check.specs.Reading.{are_pops}
use Rattle.trace_check.proofs.Rings.{past}
use Rattle.trace_check.proofs.looks.are_pops.Goals as goal

pub returns : goal.returns
returns c =
    sym
    (c.loop-place.invariant
    ∙ ap (λ (cpus : List ℕ). are_pops cpus c.args.element c.loop-place.left) (past c.args.cpu c.args.cpus c.loop-place.place c.requires c.loop-place-test.false))
