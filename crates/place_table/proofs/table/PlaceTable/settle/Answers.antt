use Rattle.std.proofs.Common.{◌≡◌, ap, sym, subst, ◌∙◌, ◌<◌, true}
use Rattle.map_types.specs.declared.attr.Shape.{Shape}
use Rattle.place_table.specs.Passes.{PassView, TableView}
use Rattle.place_table.specs.Views.{is_in_hand_of}
use Rattle.place_table.proofs.Hands.{carries_now, is_pass_moved, real_without}
use Rattle.place_table.proofs.table.PlaceTable.settle.Goals as goal

pub owner_word-word-requires : goal.owner_word-word-requires
owner_word-word-requires c =
    let in_hand = subst (λ (p : PassView). is_in_hand_of c.args.element p.cpu p.view.hand ≡ true) (sym c.pass.view_is) c.requires.in_hand in
    let real = (c.pass.invariant.hands_real _ _ in_hand).0 in
    subst (λ (s : Shape). c.args.element < s.elements) (ap (λ (p : PassView). p.view.shape) c.pass.view_is ∙ c.requires.of_table.1) real

pub settle_word-requires-clause-element : goal.settle_word-requires-clause-element
settle_word-requires-clause-element c =
    let in_hand = subst (λ (p : PassView). is_in_hand_of c.args.element p.cpu p.view.hand ≡ true) (sym c.pass.view_is) c.requires.in_hand in
    let real = (c.pass.invariant.hands_real _ _ in_hand).0 in
    let shape_is = c.self.invariant.0 ∙ ap (λ (t : TableView). t.shape) c.self.view_is in
    subst (λ (s : Shape). c.args.element < s.elements) (ap (λ (p : PassView). p.view.shape) c.pass.view_is ∙ (c.requires.of_table.1 ∙ sym shape_is)) real

pub invariant_of-pass : goal.invariant_of-pass
invariant_of-pass c = is_pass_moved _ _ _ _ _ _ _ _ _ _ _ _ c.pass.invariant (carries_now _ _ _ _ _ c.pass.invariant.carries) (real_without c.pass.inside.seat.me.0.shape _ _ _ _ c.pass.invariant.hands_real) c.settle_word.ensures.settled.1
