-- What a shrink does to a list set and tells of it.
use Rattle.std.specs.Prelude.{◌≡◌, ◌+◌, ◌-◌, ◌≤◌, ℕ, Bool, false, IsTrue, All, List, ◌++◌, map, filter, filter_map, length, count_by, take, reverse, option_map, unwrap_or, if◌then◌else◌}
use Rattle.map_types.specs.Stored.{Stored}
use Rattle.percpu_values.specs.BodyList.{BodyList}
use Rattle.map_types.specs.ElementLists.{IsIn, times}
use Rattle.map_types.specs.Listed.{Listed, elements_of}
use Rattle.place_words.specs.Shrinking.{AreLooks, AreTries, IsShrink, look_removed, try_removed, after_looks, after_tries, shrunk, forced_rows, freed}
use Rattle.place_words.specs.declared.bucket_part.Seen.{Seen}
use Rattle.place_words.specs.declared.visits.Look.{Look}
use Rattle.place_words.specs.declared.visits.Try.{Try}
use Rattle.place_words.specs.Bodies.{numbers}
use Rattle.map_types.specs.declared.row.Row.{Row}
use Rattle.row_list.specs.RowWords.{row_of}
use Rattle.lru_lists.specs.Notes.{AreNoted}
use Rattle.lru_lists.specs.Sets.{SetView, listed, moved_to, taken_off, row_on, times_listed, with_listed}
use Rattle.lru_lists.specs.declared.bits.BitCall.{BitCall}
use Rattle.lru_lists.specs.declared.bits.BitCall.TheVariants.{Cleared}
use Rattle.lru_lists.specs.declared.bits.ProbeCall.{ProbeCall}
use Rattle.lru_lists.specs.declared.name.ListName.TheVariants.{Active}
use Rattle.lru_lists.specs.declared.notes.Noted.{Noted}
use Rattle.lru_lists.specs.declared.notes.ShrinkNotes.{ShrinkNotes}
use Rattle.lru_shrink.specs.Asking.{Questions}

-- the calls that clear a bit, one for each look
abbrev pub cleared : List Look → List BitCall
cleared looks = map (λ look. Cleared (record { element = look.element; bit = look.bit })) looks

-- the probe of an element, by the hash that its row has among these rows, or 0 where it has none
abbrev pub probe_by : List Row → ℕ → Seen → ProbeCall
probe_by rows e seen = record {
  element = e;
  hash = unwrap_or (option_map (λ row. row.hash) (row_of e rows)) 0;
  probed = seen;
}

-- the probes of looks, none where the bit was set, and those of tries
abbrev pub probes_of_looks : List Row → List Look → List ProbeCall
probes_of_looks rows looks = filter_map (λ look. option_map (probe_by rows look.element) look.probed) looks

abbrev pub probes_of_tries : List Row → List Try → List ProbeCall
probes_of_tries rows tries = map (λ try. probe_by rows try.element try.probed) tries

-- the same by the rows of a set
abbrev pub probe_on : SetView → ℕ → Seen → ProbeCall
probe_on set = probe_by (set.active ++ set.inactive)

abbrev pub look_probes : SetView → List Look → List ProbeCall
look_probes set = probes_of_looks (set.active ++ set.inactive)

abbrev pub try_probes : SetView → List Try → List ProbeCall
try_probes set = probes_of_tries (set.active ++ set.inactive)

-- the elements that looks removed, and those that tries removed
abbrev pub removed_by_looks : List Look → List ℕ
removed_by_looks looks = map (λ look. look.element) (filter look_removed looks)

abbrev pub removed_by_tries : List Try → List ℕ
removed_by_tries tries = map (λ try. try.element) (filter try_removed tries)

-- Bodies of these elements came on a stack in this order, so the first lies deepest, and it had room for them. `gives` is
-- known of each.
pub record AreStacked (gives : Stored → Type 0) (elements : List ℕ) (before after : BodyList) : Type 0 where
  pub bodies : List Stored
  pub numbers : numbers bodies ≡ elements
  pub given : All gives bodies
  pub fits : length bodies ≤ before.spare
  pub stacked : after ≡ record { bodies = reverse bodies ++ before.bodies; spare = before.spare - length bodies }

-- Where a look takes its row: with its bit set to the head of active, where it was removed off the set. Else it stays.
abbrev pub after_look : Look → SetView → SetView
after_look look set =
    if look.bit then moved_to look.element Active set else (if look_removed look then taken_off look.element set else set)

-- likewise a try
abbrev pub after_try : Try → SetView → SetView
after_try try set = if try_removed try then taken_off try.element set else set

-- A moment of a shrink: the set, what was asked so far, the stack that takes the bodies, and the notes.
pub record ShrinkMoment (Notes : Type 0) : Type 0 where
  pub set : SetView
  pub asked : Questions
  pub out : BodyList
  pub notes : Notes

-- The first part of a shrink: looks, and what they did. The answer is how many they removed.
pub record LooksPart (scans target : ℕ) (gives : Stored → Type 0) (before after : ShrinkMoment (Noted Look)) (answer : ℕ) : Type 0 where
  pub looks : List Look
  pub looked : AreLooks scans target (listed before.set) looks
  pub set : after.set ≡ with_listed (after_looks (listed before.set) looks) before.set
  pub left : AreStacked gives (removed_by_looks looks) before.out after.out
  pub count : answer ≡ count_by look_removed looks
  pub enough : answer ≤ target
  pub asked : after.asked.calls ≡ before.asked.calls ++ cleared looks
  pub probed : after.asked.probes ≡ before.asked.probes ++ look_probes before.set looks
  pub noted : AreNoted looks before.notes after.notes
  pub rows : (e : ℕ) → times_listed e after.set + times e (removed_by_looks looks) ≡ times_listed e before.set
  pub same_rows : (e : ℕ) → times e (removed_by_looks looks) ≡ 0 → row_on e after.set ≡ row_on e before.set
  pub number : (length after.set.active + length after.set.inactive) + answer ≡ length before.set.active + length before.set.inactive

-- The second part: tries by force, and what they did. No bit is asked for.
pub record TriesPart (gives : Stored → Type 0) (before after : ShrinkMoment (Noted Try)) (answer : ℕ) : Type 0 where
  pub tries : List Try
  pub tried : AreTries (listed before.set) tries
  pub set : after.set ≡ with_listed (after_tries (listed before.set) tries) before.set
  pub left : AreStacked gives (removed_by_tries tries) before.out after.out
  pub count : answer ≡ count_by try_removed tries
  pub one : answer ≤ 1
  pub asked : after.asked.calls ≡ before.asked.calls
  pub probed : after.asked.probes ≡ before.asked.probes ++ try_probes before.set tries
  pub noted : AreNoted tries before.notes after.notes
  pub rows : (e : ℕ) → times_listed e after.set + times e (removed_by_tries tries) ≡ times_listed e before.set
  pub same_rows : (e : ℕ) → times e (removed_by_tries tries) ≡ 0 → row_on e after.set ≡ row_on e before.set
  pub number : (length after.set.active + length after.set.inactive) + answer ≡ length before.set.active + length before.set.inactive

-- An element whose bit was set is never evicted while another one within the scan limit whose bit wasn't could be removed.
-- `bits` says of each element looked at whether its look found the bit set, and `removable` which elements a probe removes.
abbrev pub SparesUsed : ℕ → Listed → List Look → List Try → Type 0
SparesUsed scans set looks forced =
    (bits removable : ℕ → Bool) →
    All (λ look. (look.bit ≡ bits look.element) × (look.bit ≡ false → look_removed look ≡ removable look.element)) looks →
    (evicted other : ℕ) → IsIn evicted (freed looks forced) → IsTrue (bits evicted) →
    IsIn other (elements_of (take scans (reverse set.inactive))) → bits other ≡ false → removable other ≡ false

-- A shrink of a set, by the moments before and after it and by its answer. What the looks and the tries found alone says
-- where each row goes. Each look is one call that clears the bit, and each look whose bit wasn't set and each try is one
-- probe. `gives` is known of each body that came on the stack.
pub record Shrink (scans target : ℕ) (gives : Stored → Type 0) (before after : ShrinkMoment ShrinkNotes) (answer : ℕ) : Type 0 where
  pub looks : List Look
  pub forced : List Try
  pub shrinks : IsShrink scans target (listed before.set) looks forced
  pub set : after.set ≡ with_listed (shrunk (listed before.set) looks forced) before.set
  pub left : AreStacked gives (freed looks forced) before.out after.out
  pub count : answer ≡ length (freed looks forced)
  pub asked : after.asked.calls ≡ before.asked.calls ++ cleared looks
  pub probed : after.asked.probes ≡ before.asked.probes ++ look_probes before.set looks ++ try_probes before.set forced
  pub noted_looks : AreNoted looks before.notes.looks after.notes.looks
  pub noted_forced : AreNoted forced before.notes.forced after.notes.forced
  pub few_looks : length looks ≤ scans
  pub few_tries : length forced ≤ length (forced_rows (after_looks (listed before.set) looks))
  pub enough : answer ≤ target
  pub rows : (e : ℕ) → times_listed e after.set + times e (freed looks forced) ≡ times_listed e before.set
  pub same_rows : (e : ℕ) → times e (freed looks forced) ≡ 0 → row_on e after.set ≡ row_on e before.set
  pub number : (length after.set.active + length after.set.inactive) + answer ≡ length before.set.active + length before.set.inactive
  pub spared : SparesUsed scans (listed before.set) looks forced
