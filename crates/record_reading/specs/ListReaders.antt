-- How it is read what one turn of the lock of an LRU list did.
use Rattle.std.specs.Prelude.{ℕ, Bool, true, false, List, Option, Some, None, codes}
use Rattle.map_types.specs.declared.attr.Shape.{Shape}
use Rattle.place_words.specs.declared.bucket_part.Seen.{Seen}
use Rattle.place_words.specs.declared.bucket_part.Seen.TheVariants.{Removed, Held}
use Rattle.place_words.specs.declared.list_part.GlobalPart.{GlobalPart}
use Rattle.place_words.specs.declared.list_part.GlobalPart.TheVariants as global
use Rattle.place_words.specs.declared.list_part.LocalPart.{LocalPart}
use Rattle.place_words.specs.declared.list_part.LocalPart.TheVariants as local
use Rattle.place_words.specs.declared.list_part.OwnPart.{OwnPart}
use Rattle.place_words.specs.declared.list_part.OwnPart.TheVariants as own
use Rattle.place_words.specs.declared.list_part.Stolen.{Stolen}
use Rattle.place_words.specs.declared.list_part.Stolen.TheVariants.{Free, Pending, Nothing}
use Rattle.place_words.specs.declared.visits.Flush.{Flush}
use Rattle.place_words.specs.declared.visits.Look.{Look}
use Rattle.place_words.specs.declared.visits.ShrinkNote.{ShrinkNote}
use Rattle.place_words.specs.declared.visits.Try.{Try}
use Rattle.place_words.specs.declared.visits.Visit.{Visit}
use Rattle.record_reading.specs.Readers.{Reader, after, nothing, both, made, either, number, bit, hash, counted, option, colon}
use Rattle.record_reading.specs.BucketReaders.{u32_text, element_text, element_colon}

abbrev pub visit_of : ℕ × Bool → Visit
visit_of x = record { element = x.0; bit = x.1 }

abbrev pub flush_of : ℕ × (ℕ × Bool) → Flush
flush_of x = record { element = x.0; hash = x.1.0; bit = x.1.1 }

abbrev pub look_of : ℕ × (Bool × Option Seen) → Look
look_of x = record { element = x.0; bit = x.1.0; probed = x.1.1 }

abbrev pub try_of : ℕ × Seen → Try
try_of x = record { element = x.0; probed = x.1 }

abbrev pub note_of : ℕ × (List Look × List Try) → ShrinkNote
note_of x = record { target = x.0; looks = x.1.0; forced = x.1.1 }

unfoldable pub visit : Shape → Reader Visit
visit shape = made (visit_of) (both (element_colon shape) (λ _. bit))

unfoldable pub flush : Shape → Reader Flush
flush shape =
    made (flush_of) (both (element_colon shape) (λ _. both (colon hash) (λ _. bit)))

-- what a probe found, behind a colon
unfoldable pub probe : Shape → Reader Seen
probe shape = either (made (λ _. Removed) (after (codes "r") nothing)) (made Held (after (codes "h") (number shape.cpus)))

unfoldable pub probed : Shape → Reader (Option Seen)
probed shape =
    either (made (λ seen. Some seen) (after (codes ":") (probe shape))) (made (λ _. None) (after (codes "") nothing))

unfoldable pub look : Shape → Reader Look
look shape =
    made (look_of)
    (both (element_colon shape) (λ _. both bit (λ _. probed shape)))

unfoldable pub attempt : Shape → Reader Try
attempt shape = made (try_of) (both (element_colon shape) (λ _. probe shape))

-- ` shrink T`, what was looked at, and what was tried by force
abbrev pub shrink_note : Shape → Reader ShrinkNote
shrink_note shape =
    made note_of (after (codes " shrink") (both u32_text (λ _. both (counted (look shape)) (λ _. after (codes " forced") (counted (attempt shape))))))

unfoldable pub shrink : Shape → Reader (Option ShrinkNote)
shrink shape =
    either (made (λ (note : ShrinkNote). Some note) (shrink_note shape)) (made (λ _. None) (after (codes " shrink no") nothing))

unfoldable pub stolen : Shape → Reader Stolen
stolen shape =
    either (made Free (after (codes " free") (element_text shape)))
    (either (made Pending (after (codes " pending") (element_text shape))) (made (λ _. Nothing) (after (codes " none") nothing)))

unfoldable pub done_part : Reader Bool
done_part = either (made (λ _. true) (after (codes " done") nothing)) (made (λ _. false) (after (codes " moved") nothing))

abbrev pub local_pop : Shape → Reader LocalPart
local_pop shape = made (λ (x : ℕ × ℕ). local.Pop x.0 x.1) (after (codes "pop ") (both hash (λ _. element_text shape)))

abbrev pub local_refill : Shape → Reader LocalPart
local_refill shape =
    made (λ (x : ℕ × (List Visit × (List ℕ × Option ℕ))). local.Refill x.0 x.1.0 x.1.1.0 x.1.1.1)
    (after (codes "refill ") (both hash (λ _. both (after (codes " flush") (counted (visit shape))) (λ _. both (after (codes " gain") (counted (element_text shape))) (λ _. after (codes " got") (option shape.elements))))))

abbrev pub local_steal : Shape → Reader LocalPart
local_steal shape =
    made (λ (x : Stolen × (List Look × List Try)). local.Steal x.0 x.1.0 x.1.1)
    (after (codes "steal") (both (stolen shape) (λ _. both (after (codes " first") (counted (look shape))) (λ _. after (codes " second") (counted (attempt shape))))))

abbrev pub local_add : Shape → Reader LocalPart
local_add shape =
    made (λ (x : ℕ × (ℕ × ℕ)). local.Add x.0 x.1.0 x.1.1)
    (after (codes "add ") (both hash (λ _. both (element_text shape) (λ _. after (codes " cursor") u32_text))))

abbrev pub local_push : Shape → Reader LocalPart
local_push shape = made (λ (x : ℕ × Bool). local.Push x.0 x.1) (after (codes "push") (both (element_text shape) (λ _. done_part)))

unfoldable pub local_part : Shape → Reader LocalPart
local_part shape =
    either (local_pop shape) (either (local_refill shape) (either (local_steal shape) (either (local_add shape) (local_push shape))))

abbrev pub global_turn : Shape → Reader GlobalPart
global_turn shape =
    made (λ (x : List Flush × (List Visit × (List Visit × (List ℕ × Option ShrinkNote)))). global.Turn x.0 x.1.0 x.1.1.0 x.1.1.1.0 x.1.1.1.1)
    (after (codes "turn flush") (both (counted (flush shape)) (λ _. both (after (codes " active") (counted (visit shape))) (λ _. both (after (codes " inactive") (counted (visit shape)))
    (λ _. both (after (codes " free") (counted (element_text shape))) (λ _. shrink shape))))))

unfoldable pub global_part : Shape → Reader GlobalPart
global_part shape = either (global_turn shape) (made global.Push (after (codes "push") (element_text shape)))

abbrev pub own_turn : Shape → Reader OwnPart
own_turn shape =
    made (λ (x : ℕ × (List Visit × (List Visit × (Option ShrinkNote × Option ℕ)))). own.Turn x.0 x.1.0 x.1.1.0 x.1.1.1.0 x.1.1.1.1)
    (after (codes "turn ") (both hash (λ _. both (after (codes " active") (counted (visit shape))) (λ _. both (after (codes " inactive") (counted (visit shape)))
    (λ _. both (shrink shape) (λ _. after (codes " got") (option shape.elements)))))))

unfoldable pub own_part : Shape → Reader OwnPart
own_part shape = either (own_turn shape) (made own.Push (after (codes "push") (element_text shape)))
