-- The tail of a list, and where a walk stands.
use Rattle.std.proofs.Common.{◌≡◌, ℕ, List, [], ◌∷◌, reverse, refl, subst, arith}
use Rattle.std.specs.Prelude.{Option, None, Some, option_map}
use Rattle.map_types.specs.ElementLists.{IsIn}
use Rattle.map_types.specs.declared.row.Row.{Row}
use Rattle.map_types.specs.Listed.{elements_of}
use Rattle.map_types.proofs.RowLemmas.{times_rows-reverse, times_rows-cons}
use Rattle.row_list.specs.RowWords.{head_row, tail_row}
use Rattle.lru_lists.specs.Sets.{SetView, IsPlace}
use Rattle.lru_rotate.specs.Rotating.{stands_at}

head_is_in : (rows : List Row) (row : Row) → head_row rows ≡ Some row → IsIn row.element (elements_of rows)
head_is_in [] row is = absurd cc
head_is_in (x ∷ rows) row is =
    let same : x ≡ row = cc in
    subst (λ (r : Row). IsIn r.element (elements_of (x ∷ rows))) same (omega (arith, times_rows-cons x rows))

pub tail_is_in : (rows : List Row) (row : Row) → tail_row rows ≡ Some row → IsIn row.element (elements_of rows)
tail_is_in rows row is = rw times_rows-reverse at (head_is_in (reverse rows) row is)

some_is_in : (rows : List Row) (o : Option Row) (e : ℕ) → tail_row rows ≡ o → option_map (λ r. r.element) o ≡ Some e → IsIn e (elements_of rows)
some_is_in rows None e is found = absurd cc
some_is_in rows (Some row) e is found =
    let same : row.element ≡ e = cc in
    subst (λ (x : ℕ). IsIn x (elements_of rows)) same (tail_is_in rows row is)

pub standing_is_in : (at : Option ℕ) (set : SetView) (e : ℕ) → IsPlace at set → stands_at at set.inactive ≡ Some e → IsIn e (elements_of set.inactive)
standing_is_in None set e placed is = some_is_in set.inactive (tail_row set.inactive) e refl is
standing_is_in (Some x) set e placed is =
    let same : x ≡ e = cc in
    subst (λ (y : ℕ). IsIn y (elements_of set.inactive)) same placed
