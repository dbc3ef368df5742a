use Rattle.std.proofs.Common.{◌∙◌, List, ap}
use Rattle.std.specs.List.{flat_map}
use Rattle.place_words.specs.declared.finals.LocalFinal.{LocalFinal}
use Rattle.place_words.specs.declared.finals.SetFinal.{SetFinal}
use Rattle.finals_check.specs.Marking.{met_after}
use Rattle.finals_check.proofs.MetLists.{goes_on}
use Rattle.finals_check.proofs.whole.meet_free.Goals as goal

pub returns-then-meet_free_sets : goal.returns-then-meet_free_sets
returns-then-meet_free_sets c =
    c.meet_free_locals.ensures ∙ (ap (λ (locals : List LocalFinal). met_after c.meet_free_sets.new.met (flat_map (λ (local : LocalFinal). local.free) locals)) c.as_slice-then-meet_free_sets.ensures
    ∙ goes_on c.args.met.now c.meet_free_sets.new.met (flat_map (λ (set : SetFinal). set.free) c.args.finals.now.sets) (flat_map (λ (local : LocalFinal). local.free) c.args.finals.now.locals)
    (c.if-meet_free_sets.ensures ∙ ap (λ (sets : List SetFinal). met_after c.args.met.now (flat_map (λ (set : SetFinal). set.free) sets)) c.as_slice.ensures))
