use Rattle.std.proofs.Common.{◌∷◌, ℕ, subst}
use Rattle.map_script.specs.Plain.{BeginsWithBytes}
use Rattle.map_script.proofs.FrontLemmas.{update_begins}
use Rattle.map_script.proofs.front.update_at_front.Goals as goal

pub returns : goal.returns
returns c =
    let key = c.in_ok-key.key in
    let behind = c.in_ok-key.behind.now in
    let value = c.in_ok-value.value in
    let rest = c.in_ok-value.rest.now in
    update_begins c.args.shape.now c.args.text.now c.args.places.now key behind value rest c.requires.text c.in_ok-key.ensures
    (subst (λ (size : ℕ). BeginsWithBytes size behind value (10 ∷ rest)) c.value_len.ensures c.in_ok-value.ensures)
