-- What each turn of a list lock is in serial order, from what lies there and from the bits of that moment. No element is in a
-- hand when one is looked for then, so each probe takes its element out of its bucket.
use Rattle.std.specs.Prelude.{ℕ, zero, suc, ◌-◌, ◌==◌, nat_lt, Bool, true, false, List, [], ◌∷◌, ◌++◌, map, length, take, reverse, count_by, slice_get, Option, None, Some, if◌then◌else◌}
use Rattle.std.specs.List.{list_any}
use Rattle.place_words.specs.declared.bucket_part.Seen.TheVariants.{Removed}
use Rattle.place_words.specs.declared.list_part.GlobalPart.{GlobalPart}
use Rattle.place_words.specs.declared.list_part.GlobalPart.TheVariants as global
use Rattle.place_words.specs.declared.list_part.LocalPart.{LocalPart}
use Rattle.place_words.specs.declared.list_part.LocalPart.TheVariants as local
use Rattle.place_words.specs.declared.list_part.OwnPart.{OwnPart}
use Rattle.place_words.specs.declared.list_part.OwnPart.TheVariants as own
use Rattle.place_words.specs.declared.list_part.Stolen.{Stolen}
use Rattle.place_words.specs.declared.list_part.Stolen.TheVariants.{Free, Pending, Nothing}
use Rattle.map_types.specs.declared.row.Row.{Row}
use Rattle.place_words.specs.declared.visits.Flush.{Flush}
use Rattle.place_words.specs.declared.visits.Look.{Look}
use Rattle.place_words.specs.declared.visits.ShrinkNote.{ShrinkNote}
use Rattle.place_words.specs.declared.visits.Try.{Try}
use Rattle.place_words.specs.declared.visits.Visit.{Visit}
use Rattle.place_words.specs.Globals.{global_scans, global_target, flush_visit, with_flushed, flushed_rotated}
use Rattle.map_types.specs.Listed.{Listed, elements_of}
use Rattle.place_words.specs.Locals.{last_of}
use Rattle.place_words.specs.Rotation.{visits_of, visited_elements, active_visited, active_rotated, inactive_visited}
use Rattle.place_words.specs.Sets.{ListSet, own_scans, own_target, rotated_set, shrunk_into_free}
use Rattle.place_words.specs.Shrinking.{look_removed, after_looks, forced_rows, freed}
use Rattle.place_words.specs.Takings.{freed_by, stolen_element}

-- Bits

abbrev pub among : List ℕ → ℕ → Bool
among es e = list_any (λ x. x == e) es

-- no bit of these elements, and all bits of these
abbrev pub without_bits : List ℕ → (ℕ → Bool) → ℕ → Bool
without_bits es bits e = if among es e then false else bits e

abbrev pub with_bits : List ℕ → (ℕ → Bool) → ℕ → Bool
with_bits es bits e = if among es e then true else bits e

-- The looks of a shrink at these rows, tail first, for so many scans and so many to be freed.
abbrev pub looks_over : (ℕ → Bool) → ℕ → ℕ → List Row → List Look
looks_over bits scans target [] = []
looks_over bits zero target (row ∷ rows) = []
looks_over bits (suc scans) zero (row ∷ rows) = []
looks_over bits (suc scans) (suc target) (row ∷ rows) =
    if bits row.element then (record { element = row.element; bit = true; probed = None }) ∷ looks_over bits scans (suc target) rows
    else (record { element = row.element; bit = false; probed = Some Removed }) ∷ looks_over bits scans target rows

-- a forced walk over these rows, tail first, ends with its first
abbrev pub forced_over : List Row → List Try
forced_over [] = []
forced_over (row ∷ rows) = (record { element = row.element; probed = Removed }) ∷ []

abbrev pub forced_after : List Look → List Row → List Try
forced_after looks rows = if count_by look_removed looks == 0 then forced_over rows else []

unfoldable pub shrink_of : ℕ → ℕ → (ℕ → Bool) → Listed → ShrinkNote
shrink_of scans target bits lists =
    let looks : List Look = looks_over bits scans target (reverse lists.inactive) in
    record { target = target; looks = looks; forced = forced_after looks (reverse (forced_rows (after_looks lists looks))) }

-- the visits of a rotation, and the bits after them
abbrev pub active_visits : ℕ → (ℕ → Bool) → Listed → List Visit
active_visits scans bits lists = visits_of bits (active_visited scans lists)

abbrev pub inactive_visits : ℕ → (ℕ → Bool) → Listed → List Visit
inactive_visits scans bits lists =
    let active : List Visit = active_visits scans bits lists in
    visits_of (without_bits (visited_elements active) bits) (inactive_visited scans (active_rotated scans lists active))

abbrev pub bits_rotated : ℕ → (ℕ → Bool) → Listed → ℕ → Bool
bits_rotated scans bits lists =
    without_bits (visited_elements (active_visits scans bits lists) ++ visited_elements (inactive_visits scans bits lists)) bits

-- A turn of an own set: it is rotated, shrunk where nothing is free, and gives out the head of free.
abbrev pub own_shrink : (ℕ → Bool) → ListSet → Option ShrinkNote
own_shrink bits set = if length set.free == 0 then Some (shrink_of own_scans own_target bits set.lists) else None

unfoldable pub own_turn : ℕ → (ℕ → Bool) → ListSet → OwnPart
own_turn key_hash bits set =
    let active : List Visit = active_visits own_scans bits set.lists in
    let inactive : List Visit = inactive_visits own_scans bits set.lists in
    let after : ListSet = rotated_set own_scans active inactive set in
    let shrink : Option ShrinkNote = own_shrink (bits_rotated own_scans bits set.lists) after in
    own.Turn key_hash active inactive shrink (slice_get (shrunk_into_free shrink after).free 0)

-- a turn of the global lists, where these rows are pending
abbrev pub flush_of : (ℕ → Bool) → Row → Flush
flush_of bits row = record { element = row.element; hash = row.hash; bit = bits row.element }

abbrev pub global_shrink : ℕ → (ℕ → Bool) → Listed → Option ShrinkNote
global_shrink moved bits lists = if nat_lt moved global_target then Some (shrink_of global_scans (global_target - moved) bits lists) else None

unfoldable pub global_turn : (ℕ → Bool) → List Row → ListSet → GlobalPart
global_turn bits pending set =
    let flushed : List Flush = map (flush_of bits) (reverse pending) in
    let now : Listed = (with_flushed flushed set).lists in
    let left : ℕ → Bool = without_bits (elements_of pending) bits in
    let active : List Visit = active_visits global_scans left now in
    let inactive : List Visit = inactive_visits global_scans left now in
    let free : List ℕ = take global_target set.free in
    global.Turn flushed active inactive free
    (global_shrink (length free) (bits_rotated global_scans left now) (flushed_rotated flushed active inactive set).lists)

-- what an own turn got
abbrev pub own_got : OwnPart → Option ℕ
own_got (own.Turn key_hash active inactive shrink got) = got
own_got (own.Push e) = None

-- a refill from what the global turn gave
abbrev pub refill_of : ℕ → GlobalPart → LocalPart
refill_of key_hash (global.Turn flushed active inactive free shrink) =
    local.Refill key_hash (map flush_visit flushed) (free ++ freed_by shrink) (last_of (free ++ freed_by shrink))
refill_of key_hash (global.Push e) = local.Refill key_hash [] [] None

abbrev pub refill_got : LocalPart → Option ℕ
refill_got (local.Pop key_hash e) = None
refill_got (local.Refill key_hash flushed gained got) = got
refill_got (local.Steal got first second) = None
refill_got (local.Add key_hash e cursor) = None
refill_got (local.Push e done) = None

-- the walk over pending that spares set bits, tail first
abbrev pub sparing_over : (ℕ → Bool) → List Row → List Look
sparing_over bits [] = []
sparing_over bits (row ∷ rows) =
    if bits row.element then (record { element = row.element; bit = true; probed = None }) ∷ sparing_over bits rows
    else (record { element = row.element; bit = false; probed = Some Removed }) ∷ []

abbrev pub stolen_of : List ℕ → Stolen
stolen_of [] = Nothing
stolen_of (e ∷ es) = Pending e

abbrev pub steal_of : (ℕ → Bool) → List ℕ → List Row → LocalPart
steal_of bits (e ∷ free) pending = local.Steal (Free e) [] []
steal_of bits [] pending =
    let first : List Look = sparing_over bits (reverse pending) in
    let second : List Try = forced_after first (reverse pending) in
    local.Steal (stolen_of (freed first second)) first second

-- what a theft got
abbrev pub steal_got : LocalPart → Option ℕ
steal_got (local.Pop key_hash e) = None
steal_got (local.Refill key_hash flushed gained got) = None
steal_got (local.Steal got first second) = stolen_element got
steal_got (local.Add key_hash e cursor) = None
steal_got (local.Push e done) = None
