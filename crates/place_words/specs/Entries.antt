-- Which turns of a lock rows stand for, which lie by the kind of the lock, and which turn is read in place.
use Rattle.std.specs.Prelude.{List, map}
use Rattle.place_words.specs.declared.entries.EntryAt.{EntryAt}
use Rattle.place_words.specs.declared.entries.EntryData.{EntryData}
use Rattle.place_words.specs.declared.entries.EntryData.TheVariants as forms
use Rattle.place_words.specs.declared.entries.PartAt.{PartAt}
use Rattle.place_words.specs.declared.entries.PartAt.TheVariants as read
use Rattle.place_words.specs.declared.entries.Row.{Row}
use Rattle.place_words.specs.declared.free_part.FreePart.{FreePart}
use Rattle.place_words.specs.declared.history.Entry.{Entry}
use Rattle.place_words.specs.declared.history.Part.{Part}
use Rattle.place_words.specs.declared.history.Part.TheVariants as parts
use Rattle.place_words.specs.declared.list_part.GlobalPart.{GlobalPart}
use Rattle.place_words.specs.declared.list_part.LocalPart.{LocalPart}
use Rattle.place_words.specs.declared.list_part.OwnPart.{OwnPart}
use Rattle.place_words.specs.declared.bucket_part.BucketPart.{BucketPart}
use Rattle.place_words.specs.TurnLogs.{turns_at}

-- the turn of a row whose part is of this kind
abbrev pub turn_of : {P : Type 0} → (P → Part) → Row P → Entry
turn_of part_of row = record { ticket = row.ticket; cpu = row.cpu; call = row.call; part = part_of row.part }

-- the turns of rows of each kind of lock
abbrev pub bucket_turns : List (Row BucketPart) → List Entry
bucket_turns rows = map (turn_of parts.Bucket) rows

abbrev pub free_turns : List (Row FreePart) → List Entry
free_turns rows = map (turn_of parts.Free) rows

abbrev pub local_turns : List (Row LocalPart) → List Entry
local_turns rows = map (turn_of parts.Local) rows

abbrev pub global_turns : List (Row GlobalPart) → List Entry
global_turns rows = map (turn_of parts.Global) rows

abbrev pub own_turns : List (Row OwnPart) → List Entry
own_turns rows = map (turn_of parts.Own) rows

-- the turns, in whichever rows they lie, or in logs
abbrev pub entries_of : EntryData → List Entry
entries_of (forms.Bucket rows) = bucket_turns rows.items
entries_of (forms.Free rows) = free_turns rows.items
entries_of (forms.Local rows) = local_turns rows.items
entries_of (forms.Global rows) = global_turns rows.items
entries_of (forms.Own rows) = own_turns rows.items
entries_of (forms.Logged logs first count) = turns_at logs.value first count

-- the part, and the turn, that is read in place
abbrev pub part_read : PartAt → Part
part_read (read.Bucket part) = parts.Bucket part.now
part_read (read.Free part) = parts.Free part
part_read (read.Local part) = parts.Local part.now
part_read (read.Global part) = parts.Global part.now
part_read (read.Own part) = parts.Own part.now

abbrev pub entry_read : EntryAt → Entry
entry_read entry = record { ticket = entry.ticket; cpu = entry.cpu; call = entry.call; part = part_read entry.part }
