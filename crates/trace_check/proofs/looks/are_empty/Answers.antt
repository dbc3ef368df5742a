use Rattle.std.proofs.Common.{ℕ, List, sym, ap, ◌∙◌}
use Rattle.place_words.specs.PlainTraces.{found_empty}
use Rattle.trace_check.specs.Reading.{same_turns}
use Rattle.trace_check.proofs.Rings.{past}
use Rattle.trace_check.proofs.looks.are_empty.Goals as goal

pub returns : goal.returns
returns c =
    c.is_empty.ensures
    ∙ ap (λ (cpus : List ℕ). same_turns (found_empty cpus) c.loop-place.left) (sym (past c.args.cpu c.args.cpus c.loop-place.place c.requires c.loop-place-test.false))
    ∙ sym c.loop-place.invariant
