use Rattle.std.proofs.Common.{◌∷◌, ℕ, sym, subst}
use Rattle.map_script.specs.Plain.{BeginsWithBytes}
use Rattle.map_script.proofs.FrontLemmas.{flagged_begins}
use Rattle.map_script.proofs.front.flagged_at_front.Goals as goal

pub returns : goal.returns
returns c =
    let word = c.in_ok-word.word.now in
    let behind = c.in_ok-word.behind.now in
    let key = c.in_ok-key.key in
    let middle = c.in_ok-key.middle.now in
    let value = c.in_ok-value.value in
    let rest = c.in_ok-value.rest.now in
    flagged_begins c.args.shape.now c.args.side c.args.text.now c.args.name.now c.args.places.now word behind key middle value rest c.in_ok-flags.flags
    c.requires.text c.requires.name c.requires.reads c.in_ok-word.ensures (sym c.in_ok-flags.ensures) c.in_ok-key.ensures
    (subst (λ (size : ℕ). BeginsWithBytes size middle value (10 ∷ rest)) c.value_len.ensures c.in_ok-value.ensures)
