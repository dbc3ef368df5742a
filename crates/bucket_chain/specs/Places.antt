-- Places in a bucket, which is a list of bodies, head first. A place is an index from 0.
use Rattle.std.specs.Prelude.{ℕ, zero, suc, List, [], ◌∷◌, map, Option, position, slice_index_or, if◌then◌else◌}
use Rattle.map_types.specs.Stored.{Stored}
use Rattle.place_words.specs.Bodies.{has_key}

-- where the key stands
abbrev pub place_of_key : List ℕ → List Stored → Option ℕ
place_of_key key bodies = position (has_key key) bodies

-- the key and the values that stand at a place
abbrev pub key_at : ℕ → List Stored → List ℕ
key_at place bodies = slice_index_or (map (λ (body : Stored). body.key) bodies) place []

abbrev pub values_at : ℕ → List Stored → List (List ℕ)
values_at place bodies = slice_index_or (map (λ (body : Stored). body.values) bodies) place []

-- the body at a place has these values, and the others are as they were
abbrev pub with_values_at : ℕ → List (List ℕ) → List Stored → List Stored
with_values_at place values [] = []
with_values_at zero values (body ∷ bodies) = record body { values = values } ∷ bodies
with_values_at (suc place) values (body ∷ bodies) = body ∷ with_values_at place values bodies

-- the values of the body that holds the key are changed, and each other body is as it was
abbrev pub rewritten : List ℕ → (List (List ℕ) → List (List ℕ)) → Stored → Stored
rewritten key change body = if has_key key body then record body { values = change body.values } else body
