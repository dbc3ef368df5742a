use Rattle.std.proofs.Common.{◌≡◌, drop}
use Rattle.std.specs.List.{flat_map}
use Rattle.place_words.specs.declared.finals.SetFinal.{SetFinal}
use Rattle.finals_check.specs.Marking.{met_after}
use Rattle.finals_check.proofs.meeting.meet_free_sets.Given as goal

-- what is left
abbrev pub invariant-loop-set : goal.invariant-loop-set
invariant-loop-set l = met_after l.met (flat_map (λ (set : SetFinal). set.free) (drop l.set-index l.sets)) ≡ met_after l.fn.met (flat_map (λ (set : SetFinal). set.free) l.sets)
