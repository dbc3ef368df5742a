use Rattle.std.proofs.Common.{◌≡◌, refl, subst, false, ℕ, List}
use Rattle.run_endings.specs.Divided.{is_divided}
use Rattle.run_endings.specs.Finish.{Undivided}
use Rattle.run_endings.proofs.judging.begin_with_input.Goals as goal

pub returns-in_default-clause-early : goal.returns-in_default-clause-early
returns-in_default-clause-early g c = record {
  ending = Undivided;
  cause = subst (λ (bytes : List ℕ). is_divided bytes ≡ false) c.as_slice.ensures.value c.in_default.ensures.divided;
  none = refl;
  delivered = c.end_with_line.ensures;
}
