use Rattle.std.proofs.Common.{drop}
use Rattle.std.specs.Prelude.{◌↔◌}
use Rattle.finals_check.specs.Telling.{AreTold}
use Rattle.finals_check.proofs.told.finals_told.Given as goal

-- all are told where those are that are left
abbrev pub invariant-loop-lies : goal.invariant-loop-lies
invariant-loop-lies l = AreTold l.finals (drop l.lies-index l.contents) ↔ AreTold l.finals l.contents
