use Rattle.std.proofs.Common.{◌≡◌, drop}
use Rattle.std.specs.List.{flat_map}
use Rattle.place_words.specs.declared.finals.LocalFinal.{LocalFinal}
use Rattle.finals_check.specs.Marking.{met_after}
use Rattle.finals_check.proofs.meeting.meet_free_locals.Given as goal

-- what is left
abbrev pub invariant-loop-local : goal.invariant-loop-local
invariant-loop-local l = met_after l.met (flat_map (λ (local : LocalFinal). local.free) (drop l.local-index l.locals)) ≡ met_after l.fn.met (flat_map (λ (local : LocalFinal). local.free) l.locals)
