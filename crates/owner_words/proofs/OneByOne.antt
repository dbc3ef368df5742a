-- Steps one behind another.
use Rattle.std.proofs.Common.{[], ◌∷◌, refl}
use Rattle.owner_words.specs.Owners.{owner_after, OneByOne}

pub one_by_one : OneByOne
one_by_one [] more e owner = refl
one_by_one (step ∷ steps) more e owner = one_by_one steps more e (owner_after step e owner)
