-- A table of the elements of a map that were met in its lists, and tests by it.
use Rattle.std.specs.Prelude.{ℕ, suc, ◌==◌, nat_lt, Bool, true, false, ◌&&◌, not, List, [], ◌∷◌, ◌++◌, length, replicate, set, slice_index_or, Option, None, Some, if◌then◌else◌}
use Rattle.map_types.specs.declared.attr.Shape.{Shape}
use Rattle.map_types.specs.Kind.{is_lru}
use Rattle.place_words.specs.declared.finals.Finals.{Finals}
use Rattle.map_report.specs.EachOnce.{elements_of, in_buckets}
use Rattle.map_report.specs.Record.{free_elements, on_lists}
use Rattle.map_report.specs.Serial.{spare_count}
use Rattle.record_shape.specs.WellShaped.{freelist_count, local_count, set_count}

-- an element has a place in the table and wasn't met
abbrev pub is_new : List Bool → ℕ → Bool
is_new met e = if nat_lt e (length met) then not (slice_index_or met e true) else false

-- the table after these elements were met, none where one of them isn't new
abbrev pub met_after : List Bool → List ℕ → Option (List Bool)
met_after met [] = Some met
met_after met (e ∷ es) = if is_new met e then met_after (set met e true) es else None

-- all were met
abbrev pub all_met : List Bool → Bool
all_met [] = true
all_met (met ∷ more) = met && all_met more

abbrev pub is_full : Option (List Bool) → Bool
is_full None = false
is_full (Some met) = all_met met

-- these are so many elements, each once
abbrev pub are_once : ℕ → List ℕ → Bool
are_once count es = is_full (met_after (replicate count false) es)

-- numbers from the least on, below a bound, each less than the next
abbrev pub ascend_to : ℕ → ℕ → List ℕ → Bool
ascend_to bound least [] = true
ascend_to bound least (n ∷ more) = if nat_lt n bound then (if nat_lt n least then false else ascend_to bound (suc n) more) else false

-- a map has as many lists of each sort as its shape says
abbrev pub are_counted : Shape → Finals → Bool
are_counted shape lists =
    (length lists.buckets == shape.buckets) && ((length lists.freelists == freelist_count shape) && ((length lists.spares == spare_count shape)
    && ((length lists.sets == set_count shape) && (length lists.locals == local_count shape))))

-- each element is in one place, and on a map that evicts on one list
abbrev pub are_placed : Shape → Finals → Bool
are_placed shape lists =
    if is_lru shape.kind then are_once shape.elements (in_buckets lists ++ free_elements lists) && are_once shape.elements (on_lists lists)
    else are_once shape.elements (elements_of lists)
