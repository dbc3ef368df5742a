-- Which part of a list lock an entry stands for, in whatever form it lies there.
use Rattle.std.specs.Prelude.{[], ◌≤◌, ◌+◌, length, take, drop, option_map, Option, None, Some, Box, ⊤}
use Rattle.place_words.specs.declared.list_part.GlobalPart.{GlobalPart}
use Rattle.place_words.specs.declared.list_part.GlobalPart.TheVariants as global
use Rattle.place_words.specs.declared.list_part.LocalPart.{LocalPart}
use Rattle.place_words.specs.declared.list_part.LocalPart.TheVariants as local
use Rattle.place_words.specs.declared.list_part.OwnPart.{OwnPart}
use Rattle.place_words.specs.declared.list_part.OwnPart.TheVariants as own
use Rattle.place_words.specs.declared.list_part.Stolen.TheVariants as stolen
use Rattle.place_words.specs.declared.packed.GlobalData.{GlobalData}
use Rattle.place_words.specs.declared.packed.GlobalData.TheVariants as global_data
use Rattle.place_words.specs.declared.packed.LocalData.{LocalData}
use Rattle.place_words.specs.declared.packed.LocalData.TheVariants as local_data
use Rattle.place_words.specs.declared.packed.OwnData.{OwnData}
use Rattle.place_words.specs.declared.packed.OwnData.TheVariants as own_data
use Rattle.place_words.specs.declared.packed.OwnAt.{OwnAt}
use Rattle.place_words.specs.declared.packed.OwnAt.TheVariants as own_at
use Rattle.place_words.specs.declared.packed.OwnTurn.{OwnTurn}
use Rattle.place_words.specs.declared.packed.FewTurn.{FewTurn}
use Rattle.place_words.specs.declared.visits.ShrinkNote.{ShrinkNote}
use Rattle.std.specs.Global.{Global}

abbrev pub local_of : LocalData → LocalPart
local_of (local_data.Boxed part) = part.value
local_of (local_data.Pop hash element) = local.Pop hash element
local_of (local_data.Steal element alloc) = local.Steal (stolen.Free element) [] []
local_of (local_data.Add hash element cursor) = local.Add hash element cursor
local_of (local_data.Push element done) = local.Push element done

abbrev pub global_of : GlobalData → GlobalPart
global_of (global_data.Boxed part) = part.value
global_of (global_data.Push element) = global.Push element

-- the shrink, if there is one, in a block of its own
abbrev pub shrink_told : Option (Box ShrinkNote Global) → Option ShrinkNote
shrink_told shrink = option_map (λ note. note.value) shrink

-- a turn of an own set with its visits in place: first those of active, then those of inactive; the rest of the array says nothing
abbrev pub turn_of_few : FewTurn → Option ShrinkNote → OwnPart
turn_of_few turn shrink = own.Turn turn.hash (take turn.active turn.visits) (take turn.inactive (drop turn.active turn.visits)) shrink turn.got

-- one with its visits in a block of their own
abbrev pub turn_of_own : OwnTurn → OwnPart
turn_of_own turn = own.Turn turn.hash (take turn.active turn.visits.items) (drop turn.active turn.visits.items) (shrink_told turn.shrink) turn.got

abbrev pub own_of : OwnData → OwnPart
own_of (own_data.Few turn) = turn_of_few turn.value None
own_of (own_data.FewShrunk turn) = turn_of_few turn.value.turn (Some turn.value.shrink)
own_of (own_data.Turn turn) = turn_of_own turn.value
own_of (own_data.Push element) = own.Push element

-- its array has room for the visits that are told
abbrev pub IsFewTurn : FewTurn → Type 0
IsFewTurn turn = turn.active + turn.inactive ≤ 4

-- it has as many as are told active
abbrev pub IsOwnTurn : OwnTurn → Type 0
IsOwnTurn turn = turn.active ≤ length turn.visits.items

abbrev pub IsOwn : OwnData → Type 0
IsOwn (own_data.Few turn) = IsFewTurn turn.value
IsOwn (own_data.FewShrunk turn) = IsFewTurn turn.value.turn
IsOwn (own_data.Turn turn) = IsOwnTurn turn.value
IsOwn (own_data.Push element) = ⊤

-- the part that is read in place
abbrev pub own_read : OwnAt → OwnPart
own_read (own_at.Turn hash active inactive shrink got) = own.Turn hash active.now inactive.now (option_map (λ note. note.now) shrink) got
own_read (own_at.Push element) = own.Push element
