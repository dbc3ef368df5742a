use Rattle.std.proofs.Common.{List, ◌++◌, ap, map, ◌∙◌}
use Rattle.std.specs.List.{flat_map}
use Rattle.map_types.specs.declared.kind.DomainId.TheVariants as ids
use Rattle.place_words.specs.declared.home.Home.TheVariants as homes
use Rattle.place_words.specs.Interleaving.{freed_steps}
use Rattle.step_check.specs.Ran.{step_of}
use Rattle.step_check.specs.declared.change.Change.{Change}
use Rattle.step_check.proofs.PartLemmas.{flushed_steps, rehomed_steps, steps_both}
use Rattle.step_check.proofs.list_parts.global_turn.Goals as goal

pub returns : goal.returns
returns c =
    let cpu = c.args.cpu in
    ap (map (step_of cpu)) (c.in_ok-extend_from_slice-2.ensures.items ∙ (λ i. (c.in_ok-extend_from_slice.ensures.items ∙ ap (λ (l : List Change). c.in_ok-changes.changes.items ++ l) c.as_slice-2.ensures.value) i ++ c.as_slice-3.ensures.value i))
    ∙ steps_both cpu (c.in_ok-changes.changes.items ++ c.in_ok-moved.moved.items) c.in_ok-freed.freed.items _ _
    (steps_both cpu c.in_ok-changes.changes.items c.in_ok-moved.moved.items _ _
    (ap (map (step_of cpu)) c.in_ok-changes.ensures ∙ flushed_steps cpu (homes.In ids.Global) c.args.flushed.now)
    (ap (map (step_of cpu)) c.in_ok-moved.ensures ∙ rehomed_steps cpu (homes.In (ids.Local cpu)) c.args.free.now))
    (c.in_ok-freed.ensures ∙ ap (flat_map (freed_steps cpu)) (c.as_slice.ensures.value ∙ c.in_ok-elements.ensures))
