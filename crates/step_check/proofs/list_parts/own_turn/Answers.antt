use Rattle.std.proofs.Common.{List, ◌++◌, ap, map, option_map, ◌∙◌}
use Rattle.step_check.specs.Ran.{step_of}
use Rattle.step_check.specs.declared.change.Change.{Change}
use Rattle.step_check.specs.declared.change.Change.TheVariants as variants
use Rattle.place_words.specs.Takings.{freed_by}
use Rattle.step_check.proofs.PartLemmas.{settled_steps, steps_both}
use Rattle.step_check.proofs.list_parts.own_turn.Goals as goal

pub returns : goal.returns
returns c = λ cpu.
    ap (map (step_of cpu)) (c.in_ok-extend_from_slice.ensures.items ∙ ap (λ (l : List Change). c.in_ok-changes.changes.items ++ l) c.as_slice-2.ensures.value)
    ∙ steps_both cpu c.in_ok-changes.changes.items c.in_ok-claimed.claimed.items _ _
    (ap (map (step_of cpu)) (c.in_ok-changes.ensures ∙ ap (map (λ e. variants.Settle e c.args.lock)) (c.as_slice.ensures.value ∙ c.in_ok-elements.ensures)) ∙ settled_steps cpu c.args.lock (freed_by (option_map (λ note. note.now) c.args.shrink)))
    (c.in_ok-claimed.ensures cpu)
