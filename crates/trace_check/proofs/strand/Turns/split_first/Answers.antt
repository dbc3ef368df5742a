use Rattle.std.proofs.lemmas.List.Elements.{All-rest}
use Rattle.place_words.specs.StrandSteps.{row_read}
use Rattle.trace_check.specs.Strand as strand
use Rattle.trace_check.proofs.strand.Turns.split_first.Goals as goal

pub invariant_of-behind : goal.invariant_of-behind
invariant_of-behind c =
    All-rest (strand.IsEntry c.self.inside.buckets c.self.inside.histories.now) c.in_ok-step.step (row_read c.in_ok-step.rest) (row_read c.self.inside.steps)
    c.in_ok-step.ensures c.self.invariant
