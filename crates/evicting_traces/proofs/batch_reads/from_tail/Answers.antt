use Rattle.std.proofs.Common.{ℕ, ◌+◌, ◌∷◌, drop, ap, sym, ◌∙◌}
use Rattle.std.specs.Prelude.{reverse}
use Rattle.map_types.specs.Stored.{Stored}
use Rattle.place_words.specs.Bodies.{numbers}
use Rattle.evicting_traces.proofs.Emptying.{tail_first}
use Rattle.evicting_traces.proofs.batch_reads.from_tail.Goals as goal

pub returns : goal.returns
returns c =
    tail_first c.args.all.now c.args.behind _ c.requires
    ∙ ap (λ (e : ℕ). e ∷ drop (c.args.behind + 1) (reverse (numbers c.args.all.now))) (sym (ap (λ (s : Stored). s.element) (c.kept.view_is ∙ c.index-all-all.is)))
