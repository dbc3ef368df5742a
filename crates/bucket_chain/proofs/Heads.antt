-- The first of the cells, and what is written in it.
use Rattle.std.proofs.Common.{◌≡◌, ℕ, zero, suc, List, [], ◌∷◌, ◌++◌, take, drop, reverse, refl, ap, ◌∙◌}
use Rattle.std.proofs.lemmas.List.{reverse-reverse}
use Rattle.map_types.specs.Stored.{Stored}
use Rattle.percpu_values.specs.Cells.{bodies_from}
use Rattle.percpu_values.specs.declared.cell.Cell.{Cell, Cell', None', Some'}
use Rattle.percpu_values.specs.declared.cell.Cell.TheViews.{out-Cell}
use Rattle.bucket_chain.specs.Linked.{linked}
use Rattle.bucket_chain.specs.Places.{values_at, with_values_at}

-- the bodies from a cell on are its own, and those behind its link
pub first_of : (cell : Cell) → bodies_from cell ≡ (out-Cell cell).body ∷ linked (out-Cell cell).next
unfolding out-Cell denote.Hole.Carrier.out
first_of (Cell' body None') = refl
first_of (Cell' body (Some' p cell)) = refl

pub values_there : (k : ℕ) (bodies : List Stored) (body : Stored) (rest : List Stored) → drop k bodies ≡ body ∷ rest → values_at k bodies ≡ body.values
values_there zero [] body rest at = absurd cc
values_there zero (one ∷ bodies) body rest at = cc
values_there (suc k) [] body rest at = absurd cc
values_there (suc k) (one ∷ bodies) body rest at = values_there k bodies body rest at

written_there : (k : ℕ) (bodies : List Stored) (body : Stored) (rest : List Stored) (values : List (List ℕ)) → drop k bodies ≡ body ∷ rest
    → take k bodies ++ (record body { values = values } ∷ rest) ≡ with_values_at k values bodies
written_there zero [] body rest values at = absurd cc
written_there zero (one ∷ bodies) body rest values at = cc
written_there (suc k) [] body rest values at = absurd cc
written_there (suc k) (one ∷ bodies) body rest values at = ap (λ ys. one ∷ ys) (written_there k bodies body rest values at)

-- the values at a place are written in the first of the rest, and the front is put back
pub written_back : (k : ℕ) (bodies front : List Stored) (body : Stored) (rest : List Stored) (values : List (List ℕ)) → drop k bodies ≡ body ∷ rest → front ≡ reverse (take k bodies)
    → reverse front ++ (record body { values = values } ∷ rest) ≡ with_values_at k values bodies
written_back k bodies front body rest values at is =
    ap (λ ys. reverse ys ++ (record body { values = values } ∷ rest)) is
    ∙ ap (λ ys. ys ++ (record body { values = values } ∷ rest)) (reverse-reverse (take k bodies))
    ∙ written_there k bodies body rest values at
