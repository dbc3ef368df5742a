-- What one turn of the lock of an LRU list did, as text.
use Rattle.std.specs.Prelude.{ℕ, List, ◌++◌, Bool, true, false, Option, Some, None, codes, decimal}
use Rattle.place_words.specs.declared.bucket_part.Seen.{Seen}
use Rattle.place_words.specs.declared.bucket_part.Seen.TheVariants.{Removed, Held}
use Rattle.place_words.specs.declared.list_part.GlobalPart.{GlobalPart}
use Rattle.place_words.specs.declared.list_part.GlobalPart.TheVariants as global
use Rattle.place_words.specs.declared.list_part.LocalPart.{LocalPart}
use Rattle.place_words.specs.declared.list_part.LocalPart.TheVariants as local
use Rattle.place_words.specs.declared.list_part.OwnPart.{OwnPart}
use Rattle.place_words.specs.declared.list_part.OwnPart.TheVariants as own
use Rattle.place_words.specs.declared.list_part.Stolen.{Stolen}
use Rattle.place_words.specs.declared.list_part.Stolen.TheVariants.{Free, Pending, Nothing}
use Rattle.place_words.specs.declared.visits.Flush.{Flush}
use Rattle.place_words.specs.declared.visits.Look.{Look}
use Rattle.place_words.specs.declared.visits.ShrinkNote.{ShrinkNote}
use Rattle.place_words.specs.declared.visits.Try.{Try}
use Rattle.place_words.specs.declared.visits.Visit.{Visit}
use Rattle.map_report.specs.Words.{bit_text, counted, hash_digits, number_text, option_text}

-- ` E:B`
abbrev pub visit_text : Visit → List ℕ
visit_text visit = number_text visit.element ++ codes ":" ++ bit_text visit.bit

-- ` E:HASH:B`
abbrev pub flush_text : Flush → List ℕ
flush_text flush = number_text flush.element ++ codes ":" ++ hash_digits flush.hash ++ codes ":" ++ bit_text flush.bit

-- what a probe found: the element is removed, or it is in the hand of a CPU
abbrev pub probe_text : Seen → List ℕ
probe_text Removed = codes ":r"
probe_text (Held holder) = codes ":h" ++ decimal holder

abbrev pub probed_text : Option Seen → List ℕ
probed_text None = codes ""
probed_text (Some probed) = probe_text probed

-- ` E:B`, with a probe where there was one
abbrev pub look_text : Look → List ℕ
look_text look = number_text look.element ++ codes ":" ++ bit_text look.bit ++ probed_text look.probed

abbrev pub try_text : Try → List ℕ
try_text attempt = number_text attempt.element ++ probe_text attempt.probed

abbrev pub shrink_text : Option ShrinkNote → List ℕ
shrink_text None = codes " shrink no"
shrink_text (Some note) =
    codes " shrink" ++ number_text note.target ++ counted look_text note.looks ++ codes " forced" ++ counted try_text note.forced

abbrev pub stolen_text : Stolen → List ℕ
stolen_text (Free element) = codes " free" ++ number_text element
stolen_text (Pending element) = codes " pending" ++ number_text element
stolen_text Nothing = codes " none"

abbrev pub done_text : Bool → List ℕ
done_text true = codes " done"
done_text false = codes " moved"

-- what both lists of a rotation saw
unfoldable pub rotation_text : List Visit → List Visit → List ℕ
rotation_text active inactive = codes " active" ++ counted visit_text active ++ codes " inactive" ++ counted visit_text inactive

abbrev pub push_text : ℕ → List ℕ
push_text element = codes "push" ++ number_text element

abbrev pub got_text : Option ℕ → List ℕ
got_text got = codes " got" ++ option_text got

abbrev pub local_part_text : LocalPart → List ℕ
local_part_text (local.Pop hash element) = codes "pop " ++ hash_digits hash ++ number_text element
local_part_text (local.Refill hash flushed gained got) =
    codes "refill " ++ hash_digits hash ++ (codes " flush" ++ counted visit_text flushed)
    ++ (codes " gain" ++ counted number_text gained) ++ got_text got
local_part_text (local.Steal got first second) =
    codes "steal" ++ stolen_text got ++ (codes " first" ++ counted look_text first) ++ (codes " second" ++ counted try_text second)
local_part_text (local.Add hash element cursor) =
    codes "add " ++ hash_digits hash ++ number_text element ++ codes " cursor" ++ number_text cursor
local_part_text (local.Push element done) = push_text element ++ done_text done

abbrev pub global_part_text : GlobalPart → List ℕ
global_part_text (global.Turn flushed active inactive free shrink) =
    (codes "turn flush" ++ counted flush_text flushed) ++ rotation_text active inactive
    ++ (codes " free" ++ counted number_text free) ++ shrink_text shrink
global_part_text (global.Push element) = push_text element

abbrev pub own_part_text : OwnPart → List ℕ
own_part_text (own.Turn hash active inactive shrink got) =
    codes "turn " ++ hash_digits hash ++ rotation_text active inactive ++ shrink_text shrink ++ got_text got
own_part_text (own.Push element) = push_text element
