-- The shrink of a list set, by whole lists. The rules are those of the kernel's `__bpf_lru_list_shrink_inactive` and
-- `__bpf_lru_list_shrink`. `scans` is the scan limit and `target` how many elements are to be freed. Lists are head
-- first, and looks and tries in their order.
use Rattle.std.specs.Prelude.{◌≡◌, ℕ, ◌<◌, ◌==◌, Bool, true, false, not, ◌&&◌, ◌||◌, IsTrue, MatchBool, List, [], ◌++◌, map, length, take, reverse, filter, count_by, All, slice_get, is_some, option_map, unwrap_or, if◌then◌else◌}
use Rattle.std.specs.List.{list_any}
use Rattle.map_types.specs.declared.row.Row.{Row}
use Rattle.place_words.specs.declared.bucket_part.Seen.{Seen}
use Rattle.place_words.specs.declared.bucket_part.Seen.TheVariants.{Removed, Held}
use Rattle.place_words.specs.declared.visits.Look.{Look}
use Rattle.place_words.specs.declared.visits.Try.{Try}
use Rattle.map_types.specs.Listed.{Listed, elements_of, those, without_those, cursor_without}

abbrev pub is_removed : Seen → Bool
is_removed Removed = true
is_removed (Held cpu) = false

-- whether a look's probe, or a try's, removed the element
abbrev pub look_removed : Look → Bool
look_removed look = unwrap_or (option_map is_removed look.probed) false

abbrev pub try_removed : Try → Bool
try_removed try = is_removed try.probed

-- The shortest of the prefixes that end a walk: this one does, and none before it.
pub record IsFirstEnd {A : Type 0} (ends : List A → Bool) (walk : List A) : Type 0 where
  pub here : IsTrue (ends walk)
  pub not_before : (k : ℕ) → k < length walk → ends (take k walk) ≡ false

-- These are the looks of a shrink. They go over inactive from the tail, and end as soon as they are as many as the scan
-- limit, have removed as many as the target, or are all of inactive. An element is probed exactly where its bit isn't set.
pub record AreLooks (scans target : ℕ) (set : Listed) (looks : List Look) : Type 0 where
  pub from_tail : map (λ look. look.element) looks ≡ elements_of (take (length looks) (reverse set.inactive))
  pub probed : All (λ look. is_some look.probed ≡ not look.bit) looks
  pub until : IsFirstEnd (λ walk.
      length walk == scans || (count_by look_removed walk == target || length walk == length set.inactive)) looks

-- whether a look found the element's bit set, and whether it took the element off inactive
abbrev pub found_set : List Look → ℕ → Bool
found_set looks e = list_any (λ look. (look.element == e) && look.bit) looks

abbrev pub taken_off : List Look → ℕ → Bool
taken_off looks e = list_any (λ look. (look.element == e) && (look.bit || look_removed look)) looks

-- Those whose bit was set go to the head of active one after another, removed ones leave, and the others stay. A cursor
-- on one that goes or leaves moves towards the head.
unfoldable pub after_looks : Listed → List Look → Listed
after_looks set looks = record {
  active = reverse (those (found_set looks) (take (length looks) (reverse set.inactive))) ++ set.active;
  inactive = without_those (taken_off looks) set.inactive;
  cursor = cursor_without (taken_off looks) set.inactive set.cursor;
}

-- what a forced shrink walks: inactive, or where that is empty active
abbrev pub forced_rows : Listed → List Row
forced_rows set = if length set.inactive == 0 then set.active else set.inactive

abbrev pub ends_removed : List Try → Bool
ends_removed tries = unwrap_or (option_map try_removed (slice_get (reverse tries) 0)) false

-- These are the tries of a forced shrink. They go over the list from the tail, whatever the bits, and end with the first
-- that is removed, or are all of it.
pub record AreTries (set : Listed) (tries : List Try) : Type 0 where
  pub from_tail : map (λ try. try.element) tries ≡ elements_of (take (length tries) (reverse (forced_rows set)))
  pub until : IsFirstEnd (λ walk. ends_removed walk || length walk == length (forced_rows set)) tries

abbrev pub forced_out : List Try → ℕ → Bool
forced_out tries e = list_any (λ try. (try.element == e) && try_removed try) tries

unfoldable pub after_tries : Listed → List Try → Listed
after_tries set tries = record {
  active = without_those (forced_out tries) set.active;
  inactive = without_those (forced_out tries) set.inactive;
  cursor = cursor_without (forced_out tries) set.inactive set.cursor;
}

-- These are what a shrink looked at and what it tried by force: it does so only where no look removed anything.
pub record IsShrink (scans target : ℕ) (set : Listed) (looks : List Look) (forced : List Try) : Type 0 where
  pub looked : AreLooks scans target set looks
  pub tried : MatchBool (count_by look_removed looks == 0) (AreTries (after_looks set looks) forced) (forced ≡ [])

-- the set after a shrink, and the elements that it freed, in the order in which they left
unfoldable pub shrunk : Listed → List Look → List Try → Listed
shrunk set looks forced = after_tries (after_looks set looks) forced

abbrev pub freed : List Look → List Try → List ℕ
freed looks forced =
    map (λ look. look.element) (filter look_removed looks) ++ map (λ try. try.element) (filter try_removed forced)
