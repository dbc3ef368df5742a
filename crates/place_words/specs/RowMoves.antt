-- What a turn does to the rows under its lock: some come with the hashes that they had, some get a new hash, and some vanish.
-- Every other row stays, with its hash.
use Rattle.std.specs.Prelude.{◌≡◌, ℕ, suc, ◌+◌, ◌≤◌, ◌==◌, Bool, ◌&&◌, List, [], ◌∷◌, Some, if◌then◌else◌, option_to_list}
use Rattle.map_types.specs.declared.attr.Shape.{Shape}
use Rattle.place_words.specs.declared.history.Part.{Part}
use Rattle.place_words.specs.declared.history.Part.TheVariants as parts
use Rattle.place_words.specs.declared.list_part.GlobalPart.{GlobalPart}
use Rattle.place_words.specs.declared.list_part.GlobalPart.TheVariants as global
use Rattle.place_words.specs.declared.list_part.LocalPart.{LocalPart}
use Rattle.place_words.specs.declared.list_part.LocalPart.TheVariants as local
use Rattle.place_words.specs.declared.list_part.OwnPart.{OwnPart}
use Rattle.place_words.specs.declared.list_part.OwnPart.TheVariants as own
use Rattle.map_types.specs.declared.row.Row.{Row}
use Rattle.map_types.specs.ElementLists.{times}
use Rattle.place_words.specs.Histories.{Content, content_after}
use Rattle.place_words.specs.Moves.{elements_in}
use Rattle.place_words.specs.Rotation.{visited_elements}
use Rattle.place_words.specs.Sets.{row_with}
use Rattle.place_words.specs.Takings.{listed_rows, rows_brought, freed_by, stolen_pending}

-- The rows that a turn makes for a new key: of the element that comes to pending or inactive, with the key's hash. A CPU gives
-- a hash to more than these: to each element in its hand that it claimed or brought in and gives back in a row.
abbrev pub new_in_local : LocalPart → List Row
new_in_local (local.Pop hash e) = row_with hash (Some e)
new_in_local (local.Refill hash flushed gained got) = row_with hash got
new_in_local (local.Steal got first second) = []
new_in_local (local.Add hash e cursor) = row_with hash (Some e)
new_in_local (local.Push e done) = []

abbrev pub new_in_own : OwnPart → List Row
new_in_own (own.Turn hash active inactive shrink got) = row_with hash got
new_in_own (own.Push e) = []

abbrev pub new_rows : Part → List Row
new_rows (parts.Bucket part) = []
new_rows (parts.Free part) = []
new_rows (parts.Local part) = new_in_local part
new_rows (parts.Global part) = []
new_rows (parts.Own part) = new_in_own part

-- the elements whose rows vanish: those that a refill flushes, one that a theft takes off pending, those that a shrink frees,
-- and one that is pushed free
abbrev pub gone_by_push : ℕ → Bool → List ℕ
gone_by_push e done = if done then e ∷ [] else []

abbrev pub gone_by_local : LocalPart → List ℕ
gone_by_local (local.Pop hash e) = []
gone_by_local (local.Refill hash flushed gained got) = visited_elements flushed
gone_by_local (local.Steal got first second) = option_to_list (stolen_pending got)
gone_by_local (local.Add hash e cursor) = []
gone_by_local (local.Push e done) = gone_by_push e done

abbrev pub gone_by_global : GlobalPart → List ℕ
gone_by_global (global.Turn flushed active inactive free shrink) = freed_by shrink
gone_by_global (global.Push e) = e ∷ []

abbrev pub gone_by_own : OwnPart → List ℕ
gone_by_own (own.Turn hash active inactive shrink got) = freed_by shrink
gone_by_own (own.Push e) = e ∷ []

abbrev pub rows_gone : Part → List ℕ
rows_gone (parts.Bucket part) = []
rows_gone (parts.Free part) = []
rows_gone (parts.Local part) = gone_by_local part
rows_gone (parts.Global part) = gone_by_global part
rows_gone (parts.Own part) = gone_by_own part

-- how many rows of an element there are whose hash passes a test
abbrev pub rows_of : ℕ → (ℕ → Bool) → List Row → ℕ
rows_of e of [] = 0
rows_of e of (row ∷ rows) = if (row.element == e) && of row.hash then suc (rows_of e of rows) else rows_of e of rows

-- each element lies there once at most, free or listed
abbrev pub IsOnce : Content → Type 0
IsOnce content = (e : ℕ) → times e (elements_in content) ≤ 1

-- A turn keeps rows with their hashes: after it there are, of each element and each hash, the row that is given, and those
-- that were there or were brought, unless rows of the element vanish.
abbrev pub KeepsRows : Shape → ℕ → Part → Content → Type 0
KeepsRows shape cpu part content =
    (e : ℕ) (of : ℕ → Bool) → rows_of e of (listed_rows (content_after shape cpu part content))
    ≡ (if times e (rows_gone part) == 0 then rows_of e of (listed_rows content) + rows_of e of (rows_brought part) else 0) + rows_of e of (new_rows part)
