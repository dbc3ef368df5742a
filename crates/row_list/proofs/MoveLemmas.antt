-- A move that is next among moves that may be made.
use Rattle.std.proofs.Common.{◌≡◌, ℕ, ◌<◌, ◌≤◌, List, length, get_or, drop, drop-cons, subst}
use Rattle.map_types.specs.declared.row.Row.{Row}
use Rattle.row_list.specs.RowWords.{AreRows, spare_of}
use Rattle.row_list.specs.Moves.{CanMoveOne, CanMove}
use Rattle.row_list.specs.declared.moves.RowMove.{RowMove}
use Rattle.row_list.specs.declared.moves.RowMove.TheVariants.{Push}
use Rattle.row_list.proofs.RowLemmas.{room_for}

-- where it is a push, there is room for its row
pub room_to_push : (bound : ℕ) (rows : List Row) (moves : List RowMove) (i : ℕ) (first : RowMove) (row : Row) → AreRows bound rows → CanMove bound rows (drop i moves) → i < length moves → get_or moves i first ≡ Push row → 1 ≤ spare_of bound rows
room_to_push bound rows moves i first row are can within is =
    let next = subst (CanMove bound rows) (drop-cons moves i first within) can in
    let one = subst (CanMoveOne bound rows) is next.0 in
    room_for bound row.element rows are one.0 one.1
