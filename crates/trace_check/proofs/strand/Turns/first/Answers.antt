use Rattle.std.proofs.Common.{List, take, sym, ap, ◌∙◌}
use Rattle.std.proofs.lemmas.List.{take-map}
use Rattle.place_words.specs.StrandSteps.{row_read}
use Rattle.place_words.specs.declared.history.StrandStep.{StrandStep}
use Rattle.trace_check.specs.Strand as strand
use Rattle.trace_check.proofs.strand.Turns.first.Goals as goal

pub returns : goal.returns
returns c =
    ap (λ (steps : List StrandStep). strand.turns_at c.self.inside.buckets c.self.inside.histories.now steps) c.first.ensures
    ∙ sym (take-map (strand.turn_at c.self.inside.buckets c.self.inside.histories.now) c.args.count (row_read c.self.inside.steps))
    ∙ ap (take c.args.count) c.self.view_is
