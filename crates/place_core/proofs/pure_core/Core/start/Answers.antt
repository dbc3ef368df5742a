use Rattle.std.proofs.Common.{subst, sym}
use Rattle.map_types.proofs.CreationLemmas.{bounds_of_shape}
use Rattle.place_core.specs.Answers.{view_of}
use Rattle.place_words.specs.Places.{Placed}
use Rattle.place_words.specs.State.{State}
use Rattle.place_words.proofs.OpeningLaws.{opening_placed}
use Rattle.place_core.proofs.OpeningCore.{opening_core, opening_state}
use Rattle.place_core.proofs.pure_core.Core.start.Goals as goal

pub invariant_of-result : goal.invariant_of-result
invariant_of-result c =
    opening_core c.args.shape.now (view_of c.in_ok-cells.cells) c.requires (bounds_of_shape c.args.shape.now c.requires) c.in_ok-cells.ensures

pub returns-clause-exact : goal.returns-clause-exact
returns-clause-exact c = opening_state c.args.shape.now (view_of c.in_ok-cells.cells) c.in_ok-cells.ensures

pub returns-clause-placed : goal.returns-clause-placed
returns-clause-placed c =
    subst (λ (s : State). Placed c.args.shape.now s) (sym (opening_state c.args.shape.now (view_of c.in_ok-cells.cells) c.in_ok-cells.ensures)) (opening_placed c.args.shape.now (bounds_of_shape c.args.shape.now c.requires))
