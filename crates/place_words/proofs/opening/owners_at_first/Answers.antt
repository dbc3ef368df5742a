use Rattle.std.proofs.Common.{arith, sym, ◌∙◌, ◌≡◌, ◌≤◌, List, ℕ, length, subst}
use Rattle.map_types.proofs.CreationLemmas.{bounds_of_shape}
use Rattle.place_words.specs.Openings.{opening_owner, opening_spares}
use Rattle.place_words.proofs.StartLemmas.{map_next, spares_length}
use Rattle.place_words.proofs.opening.owners_at_first.Goals as goal

pub owner_at_first-requires : goal.owner_at_first-requires
owner_at_first-requires c =
    let spares : c.as_slice.result.now ≡ opening_spares c.args.shape.now = c.as_slice.ensures.value ∙ c.in_ok-spares.ensures in
    let few : length c.as_slice.result.now ≤ c.args.shape.now.cpus = subst (λ (xs : List ℕ). length xs ≤ c.args.shape.now.cpus) (sym spares) (spares_length c.args.shape.now) in
    omega (arith, (bounds_of_shape c.args.shape.now c.requires).cpus_bounded)

pub loop-element-preserved : goal.loop-element-preserved
loop-element-preserved c =
    map_next (opening_owner c.args.shape.now c.args.shape.now.kind) c.loop-element.element c.loop-element.owners.items c.push.new.self.items c.owner_at_first.result c.loop-element.invariant (c.owner_at_first.ensures c.args.shape.now (sym (c.as_slice.ensures.value ∙ c.in_ok-spares.ensures))) c.in_ok-push.ensures.items
