-- Steps that are worked out by hand, on local lists with free 3 2 and pending 1 0, head first, whose next theft starts at CPU 1.
use Rattle.std.proofs.Common.{◌≡◌, ℕ, ◌+◌, List, [], ◌∷◌, map, refl}
use Rattle.map_types.specs.Stored.{Stored}
use Rattle.map_types.specs.declared.row.Row.{Row}
use Rattle.place_words.specs.Locals.{LocalLists}
use Rattle.local_lists.specs.LocalLists.{LocalView, local_told, with_free, with_pending_row, without_pending, with_steal}
use Rattle.percpu_values.specs.BodyList.{pushed, popped}

abbrev body : ℕ → Stored
body e = record { element = e; key = []; values = [] }

-- a row whose hash tells it from the others
abbrev row : ℕ → Row
row e = record { element = e; hash = 10 + e }

abbrev four : LocalView
four = record {
  free = record { bodies = body 3 ∷ body 2 ∷ []; spare = 3 };
  pending = row 1 ∷ row 0 ∷ [];
  steal = 1;
  elements = 5;
}

abbrev lists : List ℕ → List ℕ → ℕ → LocalLists
lists free pending steal = record { free = free; pending = map row pending; steal = steal }

-- the head of free is taken, and then the other one
pub one_popped : local_told (with_free (popped four.free) four) ≡ lists (2 ∷ []) (1 ∷ 0 ∷ []) 1
one_popped = refl

pub both_popped : local_told (with_free (popped (popped four.free)) four) ≡ lists [] (1 ∷ 0 ∷ []) 1
both_popped = refl

-- an element comes to the head of free, and one to that of pending
pub freed : local_told (with_free (pushed (body 4) four.free) four) ≡ lists (4 ∷ 3 ∷ 2 ∷ []) (1 ∷ 0 ∷ []) 1
freed = refl

pub added : local_told (with_pending_row (row 4) four) ≡ lists (3 ∷ 2 ∷ []) (4 ∷ 1 ∷ 0 ∷ []) 1
added = refl

-- the tail of pending leaves it, and so does its head
pub tail_taken : local_told (without_pending 0 four) ≡ lists (3 ∷ 2 ∷ []) (1 ∷ []) 1
tail_taken = refl

pub head_taken : local_told (without_pending 1 four) ≡ lists (3 ∷ 2 ∷ []) (0 ∷ []) 1
head_taken = refl

-- none does, where it is free or not there
pub none_taken : local_told (without_pending 3 four) ≡ lists (3 ∷ 2 ∷ []) (1 ∷ 0 ∷ []) 1
none_taken = refl

pub cursor_set : local_told (with_steal 0 four) ≡ lists (3 ∷ 2 ∷ []) (1 ∷ 0 ∷ []) 0
cursor_set = refl
