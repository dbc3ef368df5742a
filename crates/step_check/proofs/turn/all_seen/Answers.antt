use Rattle.std.proofs.Common.{ap, sym, subst, ◌∙◌, List}
use Rattle.place_words.specs.Interleaving.{Event}
use Rattle.step_check.specs.Answers.{view_of}
use Rattle.step_check.specs.Ran.{Ran, seen_list}
use Rattle.step_check.proofs.RunLemmas.{ran_unseen, ran_sees}
use Rattle.step_check.proofs.turn.all_seen.Goals as goal

pub returns-in-Some : goal.returns-in-Some
returns-in-Some c =
    subst (λ (es : List Event). Ran (view_of c.args.kept.now) es (view_of c.args.kept.now) c.sees.result) (sym (c.seen_of.ensures ∙ ap seen_list c.in-Some.is))
    (ran_sees (view_of c.args.kept.now) c.in-Some.element c.in-Some.hand c.sees.result c.requires c.sees.ensures)

pub returns-in-None : goal.returns-in-None
returns-in-None c = ran_unseen (view_of c.args.kept.now) _ c.requires (c.seen_of.ensures ∙ ap seen_list c.in-None.is)
