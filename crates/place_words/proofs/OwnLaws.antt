-- The turn of an own set that is computed in serial order is one that the rules allow, whatever the bits and the lists are.
use Rattle.std.proofs.Common.{◌≡◌, ◌≢◌, ℕ, suc, ◌≤◌, ◌==◌, Bool, true, false, eqb, List, [], ◌∷◌, length, refl, ap, sym, subst, arith}
use Rattle.std.specs.Prelude.{None, Some, slice_get, if◌then◌else◌}
use Rattle.std.proofs.lemmas.Option.{none-some}
use Rattle.map_types.specs.declared.row.Row.{Row}
use Rattle.map_types.specs.ElementLists.{times}
use Rattle.map_types.specs.Listed.{Listed, elements_of}
use Rattle.place_words.specs.declared.visits.ShrinkNote.{ShrinkNote}
use Rattle.place_words.specs.Choices.{shrink_of, active_visits, inactive_visits, own_shrink, own_turn}
use Rattle.place_words.specs.Rotation.{visits_of, visited_elements, AreRotationVisits}
use Rattle.place_words.specs.RowMoves.{gone_by_own}
use Rattle.place_words.specs.Sets.{ListSet, own_scans, own_target, AllowsOwnShrink, AllowsOnOwn}
use Rattle.place_words.specs.Shrinking.{freed}
use Rattle.place_words.specs.Takings.{shrink_probes, own_probes, freed_by}
use Rattle.map_types.proofs.RowLemmas.{times_rows-append}
use Rattle.place_words.proofs.LookLaws.{shrink_allowed}
use Rattle.place_words.proofs.Loses.{in_set}
use Rattle.place_words.proofs.RowCounts.{any, rows_any}
use Rattle.place_words.proofs.ShrinkProbes.{removed_tries, shrink_probed, freed_listed}

pub visits_name : (bits : ℕ → Bool) (rows : List Row) → visited_elements (visits_of bits rows) ≡ elements_of rows
visits_name bits [] = refl
visits_name bits (row ∷ rows) = ap (λ es. row.element ∷ es) (visits_name bits rows)

pub rotation_visits : (scans : ℕ) (bits : ℕ → Bool) (lists : Listed) → AreRotationVisits scans lists (active_visits scans bits lists) (inactive_visits scans bits lists)
rotation_visits scans bits lists = record { of_active = visits_name _ _; of_inactive = visits_name _ _ }

suc_isnt_zero : (n : ℕ) → (suc n == 0) ≡ false
suc_isnt_zero n = grind arith

cons_isnt_nil : (e : ℕ) (es : List ℕ) → e ∷ es ≢ []
cons_isnt_nil e es same = grind (arith, same)

own_shrink_where : (bits : ℕ → Bool) (lists : Listed) (free : List ℕ)
    → AllowsOwnShrink (own_shrink bits (record { lists = lists; free = free })) (record { lists = lists; free = free })
unfolding shrink_of
own_shrink_where bits lists [] = (refl, refl, shrink_allowed own_scans own_target bits lists)
own_shrink_where bits lists (e ∷ free) =
    subst (λ (none : Bool). AllowsOwnShrink (if none then Some (shrink_of own_scans own_target bits lists) else None) (record { lists = lists; free = e ∷ free }))
    (sym (suc_isnt_zero (length free))) (cons_isnt_nil e free)

-- the computed turn of an own set is allowed, whatever the bits and the lists are
pub own_turn_allowed : (hash : ℕ) (bits : ℕ → Bool) (set : ListSet) → AllowsOnOwn (own_turn hash bits set) set
unfolding own_turn
own_turn_allowed hash bits set = (rotation_visits own_scans bits set.lists, own_shrink_where _ _ _, refl)

-- What it got

pub no_head : {A : Type 0} (xs : List A) → slice_get xs 0 ≡ None → xs ≡ []
no_head [] none = refl
no_head (x ∷ xs) none = absurd (none-some x (sym none))

-- Its probes

-- the probes of a shrink where there is one
pub shrink_where_probed : (none : Bool) (note : ShrinkNote) → shrink_probes (Some note) ≡ removed_tries (freed note.looks note.forced)
    → shrink_probes (if none then Some note else None) ≡ removed_tries (freed_by (if none then Some note else None))
shrink_where_probed true note are = are
shrink_where_probed false note are = refl

-- they are tries of exactly the elements that its shrink frees, in order, and each removes
pub own_probed : (hash : ℕ) (bits : ℕ → Bool) (set : ListSet) → own_probes (own_turn hash bits set) ≡ removed_tries (gone_by_own (own_turn hash bits set))
unfolding own_turn
own_probed hash bits set = shrink_where_probed (eqb (length set.free) 0) _ (shrink_probed own_scans own_target _ _)

pub shrink_listed : (none : Bool) (scans target : ℕ) (bits : ℕ → Bool) (lists : Listed) (e : ℕ)
    → times e (freed_by (if none then Some (shrink_of scans target bits lists) else None)) ≤ in_set e any lists
shrink_listed true scans target bits lists e =
    omega (arith, freed_listed scans target bits lists e, times_rows-append e lists.active lists.inactive, rows_any e lists.active, rows_any e lists.inactive)
shrink_listed false scans target bits lists e = omega arith
