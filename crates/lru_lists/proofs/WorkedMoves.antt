-- Moves that are worked out by hand, on a set with inactive 3 2 1 0 and active 5 4, head first.
use Rattle.std.proofs.Common.{◌≡◌, ℕ, ◌+◌, List, [], ◌∷◌, Option, Some, None, refl}
use Rattle.map_types.specs.declared.row.Row.{Row}
use Rattle.map_types.specs.Listed.{Listed}
use Rattle.lru_lists.specs.declared.name.ListName.TheVariants.{Active, Inactive}
use Rattle.lru_lists.specs.Sets.{SetView, listed, moved_in, moved_to, taken_off}

-- a row whose hash tells it from the others
abbrev row : ℕ → Row
row e = record { element = e; hash = 10 + e }

abbrev six : Option ℕ → SetView
six cursor = record {
  active = row 5 ∷ row 4 ∷ [];
  inactive = row 3 ∷ row 2 ∷ row 1 ∷ row 0 ∷ [];
  free = record { bodies = []; spare = 6 };
  cursor = cursor;
  elements = 6;
}

abbrev lists : List Row → List Row → Option ℕ → Listed
lists active inactive cursor = record { active = active; inactive = inactive; cursor = cursor }

-- the element under the cursor is taken off: the cursor goes towards the head
pub under_cursor_off : listed (taken_off 1 (six (Some 1))) ≡ lists (row 5 ∷ row 4 ∷ []) (row 3 ∷ row 2 ∷ row 0 ∷ []) (Some 2)
under_cursor_off = refl

-- under it is the head: the cursor goes to the mark
pub head_off : listed (taken_off 3 (six (Some 3))) ≡ lists (row 5 ∷ row 4 ∷ []) (row 2 ∷ row 1 ∷ row 0 ∷ []) None
head_off = refl

-- another element is taken off: the cursor stays
pub other_off : listed (taken_off 0 (six (Some 1))) ≡ lists (row 5 ∷ row 4 ∷ []) (row 3 ∷ row 2 ∷ row 1 ∷ []) (Some 1)
other_off = refl

-- an active element is taken off
pub active_off : listed (taken_off 5 (six (Some 1))) ≡ lists (row 4 ∷ []) (row 3 ∷ row 2 ∷ row 1 ∷ row 0 ∷ []) (Some 1)
active_off = refl

-- none is, where it is on neither list
pub nothing_off : listed (taken_off 7 (six (Some 1))) ≡ lists (row 5 ∷ row 4 ∷ []) (row 3 ∷ row 2 ∷ row 1 ∷ row 0 ∷ []) (Some 1)
nothing_off = refl

-- the element under the cursor goes to active, with its row
pub to_active : listed (moved_to 1 Active (six (Some 1))) ≡ lists (row 1 ∷ row 5 ∷ row 4 ∷ []) (row 3 ∷ row 2 ∷ row 0 ∷ []) (Some 2)
to_active = refl

-- it goes to the head of its own list
pub to_inactive : listed (moved_to 1 Inactive (six (Some 1))) ≡ lists (row 5 ∷ row 4 ∷ []) (row 1 ∷ row 3 ∷ row 2 ∷ row 0 ∷ []) (Some 2)
to_inactive = refl

-- the head, under the cursor, goes to the head of its own list
pub head_to_inactive : listed (moved_to 3 Inactive (six (Some 3))) ≡ lists (row 5 ∷ row 4 ∷ []) (row 3 ∷ row 2 ∷ row 1 ∷ row 0 ∷ []) None
head_to_inactive = refl

-- an active element goes to inactive: the cursor stays
pub active_to_inactive : listed (moved_to 4 Inactive (six (Some 1))) ≡ lists (row 5 ∷ []) (row 4 ∷ row 3 ∷ row 2 ∷ row 1 ∷ row 0 ∷ []) (Some 1)
active_to_inactive = refl

-- the cursor stays at the mark
pub mark_stays : listed (moved_to 3 Active (six None)) ≡ lists (row 3 ∷ row 5 ∷ row 4 ∷ []) (row 2 ∷ row 1 ∷ row 0 ∷ []) None
mark_stays = refl

-- a new row comes to the head
pub comes_in : listed (moved_in (row 6) Inactive (six (Some 3))) ≡ lists (row 5 ∷ row 4 ∷ []) (row 6 ∷ row 3 ∷ row 2 ∷ row 1 ∷ row 0 ∷ []) (Some 3)
comes_in = refl
