-- What lies under the locks after turns in serial order.
use Rattle.std.proofs.Common.{◌≡◌, ℕ, List, [], ◌∷◌, ◌++◌, refl, ap, ◌∙◌}
use Rattle.map_types.specs.declared.attr.Shape.{Shape}
use Rattle.map_types.specs.declared.kind.DomainId.{DomainId}
use Rattle.place_words.specs.Histories.{Content}
use Rattle.place_words.specs.Logs.{State, lies_in, turned, all_turned}
use Rattle.place_words.specs.Turns.{Turn, after_turn, after_turns}
use Rattle.place_words.proofs.PlacedLaws.{lies_after}

pub after_both : (shape : Shape) (cpu : ℕ) (contents : DomainId → Content) (first second : List Turn) → after_turns shape cpu contents (first ++ second) ≡ after_turns shape cpu (after_turns shape cpu contents first) second
after_both shape cpu contents [] second = refl
after_both shape cpu contents (turn ∷ first) second = after_both shape cpu (after_turn shape cpu contents turn) first second

pub lies_after_all : (shape : Shape) (cpu number : ℕ) (turns : List Turn) (state : State) → lies_in shape (all_turned shape cpu number turns state) ≡ after_turns shape cpu (lies_in shape state) turns
lies_after_all shape cpu number [] state = refl
lies_after_all shape cpu number (turn ∷ turns) state =
    lies_after_all shape cpu number turns (turned shape cpu number turn state) ∙ ap (λ (contents : DomainId → Content). after_turns shape cpu contents turns) (lies_after shape cpu number turn state)
