use Rattle.std.proofs.Common.{◌≡◌, ap, sym, ◌∙◌}
use Rattle.std.specs.Prelude.{position, Some, None}
use Rattle.percpu_values.specs.BodyList.{BodyList}
use Rattle.place_words.specs.Bodies.{has_number}
use Rattle.bucket_chain.proofs.Found.{find_none, find_some, rest_some}
use Rattle.bucket_chain.proofs.chain.Chain.take_element.Goals as goal

pub returns-in_err-place-clause-taken : goal.returns-in_err-place-clause-taken
returns-in_err-place-clause-taken c =
    let seen = ap (λ (list : BodyList). list.bodies) c.self.view_is in
    let none : position (has_number c.args.element) c.args.self.now.bodies ≡ None =
    sym (c.in_err-place.ensures ∙ ap (position (has_number c.args.element)) seen) in
    c.from_residual.ensures ∙ sym (find_none (has_number c.args.element) c.args.self.now.bodies none)

pub returns-clause-taken : goal.returns-clause-taken
returns-clause-taken c =
    let seen = ap (λ (list : BodyList). list.bodies) c.self.view_is in
    let some : position (has_number c.args.element) c.args.self.now.bodies ≡ Some c.in_ok-place.place =
    sym (c.in_ok-place.ensures ∙ ap (position (has_number c.args.element)) seen) in
    c.take_out.ensures.taken ∙ find_some (has_number c.args.element) c.args.self.now.bodies c.in_ok-place.place some

pub returns-clause-bodies : goal.returns-clause-bodies
returns-clause-bodies c =
    let seen = ap (λ (list : BodyList). list.bodies) c.self.view_is in
    let some : position (has_number c.args.element) c.args.self.now.bodies ≡ Some c.in_ok-place.place =
    sym (c.in_ok-place.ensures ∙ ap (position (has_number c.args.element)) seen) in
    c.take_out.ensures.bodies ∙ rest_some (has_number c.args.element) c.args.self.now.bodies c.in_ok-place.place some
