-- Rows worked by hand, on which the definitions of rotation and shrinking are tried. The scan limit is 4.
use Rattle.std.proofs.Common.{◌≡◌, ℕ, ◌+◌, Bool, true, false, List, [], ◌∷◌, map, refl}
use Rattle.std.specs.Prelude.{Option, None, Some}
use Rattle.map_types.specs.declared.row.Row.{Row}
use Rattle.place_words.specs.declared.visits.Visit.{Visit}
use Rattle.map_types.specs.Listed.{Listed}
use Rattle.place_words.specs.Rotation.{rotated, active_visited, active_rotated, inactive_order, inactive_visited, inactive_rotated, AreRotationVisits}

abbrev pub rows : List ℕ → List Row
rows es = map (λ e. record { element = e; hash = 1000 + e }) es

abbrev pub listed : List ℕ → List ℕ → Option ℕ → Listed
listed active inactive cursor = record { active = rows active; inactive = rows inactive; cursor = cursor }

visit : ℕ → Bool → Visit
visit e bit = record { element = e; bit = bit }

first : Listed
first = listed [] (5 ∷ 4 ∷ 3 ∷ 2 ∷ 1 ∷ 0 ∷ []) None

second : Listed
second = listed (2 ∷ 0 ∷ []) (5 ∷ 4 ∷ 3 ∷ 1 ∷ []) (Some 4)

third : Listed
third = listed (1 ∷ 4 ∷ 2 ∷ 0 ∷ []) (5 ∷ 3 ∷ []) (Some 5)

-- the bits of 0 and 2 are set
first_visits : List Visit
first_visits = visit 0 true ∷ visit 1 false ∷ visit 2 true ∷ visit 3 false ∷ []

first_rotates : rotated 4 first [] first_visits ≡ second
unfolding rotated active_visited active_rotated inactive_order inactive_visited inactive_rotated first second first_visits visit
first_rotates = refl

first_visits_it : AreRotationVisits 4 first [] first_visits
unfolding rotated active_visited active_rotated inactive_order inactive_visited inactive_rotated first second first_visits visit
first_visits_it = record { of_active = refl; of_inactive = refl }

-- the bits of 4 and 1 are set
second_visits : List Visit
second_visits = visit 4 true ∷ visit 5 false ∷ visit 1 true ∷ visit 3 false ∷ []

second_rotates : rotated 4 second [] second_visits ≡ third
unfolding rotated active_visited active_rotated inactive_order inactive_visited inactive_rotated second third second_visits visit
second_rotates = refl

second_visits_it : AreRotationVisits 4 second [] second_visits
unfolding rotated active_visited active_rotated inactive_order inactive_visited inactive_rotated second third second_visits visit
second_visits_it = record { of_active = refl; of_inactive = refl }

-- No bit is set. Active is the longer list, so all of it goes to inactive, from where the second part goes on at the
-- cursor.
third_active : List Visit
third_active = visit 0 false ∷ visit 2 false ∷ visit 4 false ∷ visit 1 false ∷ []

third_inactive : List Visit
third_inactive = visit 5 false ∷ visit 0 false ∷ visit 2 false ∷ visit 4 false ∷ []

third_rotates : rotated 4 third third_active third_inactive ≡ listed [] (1 ∷ 4 ∷ 2 ∷ 0 ∷ 5 ∷ 3 ∷ []) (Some 1)
unfolding rotated active_visited active_rotated inactive_order inactive_visited inactive_rotated third third_active third_inactive visit
third_rotates = refl

third_visits_it : AreRotationVisits 4 third third_active third_inactive
unfolding rotated active_visited active_rotated inactive_order inactive_visited inactive_rotated third third_active third_inactive visit
third_visits_it = record { of_active = refl; of_inactive = refl }
