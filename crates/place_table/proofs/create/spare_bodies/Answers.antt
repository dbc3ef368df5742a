use Rattle.std.proofs.Common.{arith, ◌≡◌, ◌≤◌, ◌∙◌, List, ℕ, length, subst, sym}
use Rattle.map_types.proofs.CreationLemmas.{bounds_of_shape}
use Rattle.place_words.specs.Openings.{opening_spares}
use Rattle.place_words.proofs.StartLemmas.{spares_length}
use Rattle.place_table.proofs.create.spare_bodies.Goals as goal

pub bodies_of-requires : goal.bodies_of-requires
bodies_of-requires c =
    let spares : c.as_slice.result.now ≡ opening_spares c.args.shape.now = c.as_slice.ensures.value ∙ c.in_ok-elements-in-Hash.ensures in
    let few : length c.as_slice.result.now ≤ c.args.shape.now.cpus = subst (λ (xs : List ℕ). length xs ≤ c.args.shape.now.cpus) (sym spares) (spares_length c.args.shape.now) in
    omega (arith, (bounds_of_shape c.args.shape.now c.requires).cpus_bounded)
