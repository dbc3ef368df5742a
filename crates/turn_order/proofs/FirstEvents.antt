-- The events of the first turns are those with which the events of all begin.
use Rattle.std.proofs.Common.{◌≡◌, ℕ, zero, suc, List, [], ◌∷◌, ◌++◌, length, refl, ap, sym, ◌∙◌, append_assoc}
use Rattle.map_types.specs.declared.attr.Shape.{Shape}
use Rattle.map_types.specs.declared.kind.DomainId.{DomainId}
use Rattle.place_words.specs.Histories.{Content}
use Rattle.place_words.specs.Interleaving.{Drawn, Event, turn_of, enclosing, lists_in, tickets_of, turn_events, interleaved}
use Rattle.place_words.specs.Turns.{after_turn}
use Rattle.turn_order.specs.Ordered.{interleaved_to}

pub to_all : (shape : Shape) (contents : DomainId → Content) (begun : List ℕ) (turns : List Drawn) → interleaved_to (length turns) shape contents begun turns ≡ interleaved shape contents begun turns
unfolding interleaved_to interleaved
to_all shape contents begun [] = refl
to_all shape contents begun (x ∷ later) =
    let now : DomainId → Content = after_turn shape x.entry.cpu contents (turn_of x) in
    ap (λ (l : List Event). turn_events shape (enclosing x later) begun (lists_in (now x.lock)) x ++ l) (to_all shape now (x.entry.ticket ∷ tickets_of (enclosing x later) ++ begun) later)

pub to_some : (shape : Shape) (contents : DomainId → Content) (begun : List ℕ) (turns : List Drawn) (n : ℕ)
    → (more : List Event) × (interleaved shape contents begun turns ≡ interleaved_to n shape contents begun turns ++ more)
unfolding interleaved_to interleaved
to_some shape contents begun turns zero = (interleaved shape contents begun turns, refl)
to_some shape contents begun [] (suc n) = ([], refl)
to_some shape contents begun (x ∷ later) (suc n) =
    let now : DomainId → Content = after_turn shape x.entry.cpu contents (turn_of x) in
    let begun_now : List ℕ = x.entry.ticket ∷ tickets_of (enclosing x later) ++ begun in
    let first : List Event = turn_events shape (enclosing x later) begun (lists_in (now x.lock)) x in
    let rest = to_some shape now begun_now later n in
    (rest.0, ap (λ (l : List Event). first ++ l) rest.1 ∙ sym (append_assoc first (interleaved_to n shape now begun_now later) rest.0))
