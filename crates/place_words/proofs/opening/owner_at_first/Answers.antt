use Rattle.std.proofs.Common.{sym, ◌∙◌, ap, List, ℕ, eqb}
use Rattle.std.specs.Prelude.{position}
use Rattle.map_types.specs.declared.kind.MapKind.{MapKind}
use Rattle.place_words.specs.Openings.{spare_owner, opening_owner}
use Rattle.place_words.proofs.opening.owner_at_first.Goals as goal

pub returns-in-Some : goal.returns-in-Some
unfolding opening_owner
returns-in-Some c shape are =
    ap spare_owner (c.in-Some.ensures.exact ∙ ap (λ (xs : List ℕ). position (λ spare. eqb spare c.args.element) xs) (sym are)) ∙ ap (λ (kind : MapKind). opening_owner shape kind c.args.element) (sym c.in-Hash.is)

pub returns-in-None : goal.returns-in-None
unfolding opening_owner
returns-in-None c shape are =
    ap spare_owner (c.in-None.ensures.exact ∙ ap (λ (xs : List ℕ). position (λ spare. eqb spare c.args.element) xs) (sym are)) ∙ ap (λ (kind : MapKind). opening_owner shape kind c.args.element) (sym c.in-Hash.is)
