-- Elements that a CPU's local lists lost to the global ones, as histories tell it.
use Rattle.std.specs.Prelude.{ℕ, Bool, true, false, ◌==◌, List, [], ◌∷◌, Option, None, Some, if◌then◌else◌, take, drop}
use Rattle.map_types.specs.declared.attr.Shape.{Shape}
use Rattle.map_types.specs.declared.kind.DomainId.{DomainId}
use Rattle.place_words.specs.declared.history.Entry.{Entry}
use Rattle.place_words.specs.declared.history.Part.{Part}
use Rattle.place_words.specs.declared.history.Part.TheVariants as parts
use Rattle.place_words.specs.declared.list_part.LocalPart.{LocalPart}
use Rattle.place_words.specs.declared.list_part.LocalPart.TheVariants as local
use Rattle.place_words.specs.declared.visits.Visit.{Visit}
use Rattle.place_words.specs.Histories.{Content, content, content_after}
use Rattle.place_table.specs.StoredHashes.{stored_in}

abbrev pub is_visited : ℕ → List Visit → Bool
is_visited e [] = false
is_visited e (x ∷ xs) = if x.element == e then true else is_visited e xs

abbrev pub local_flushes : ℕ → LocalPart → Bool
local_flushes e (local.Refill hash flushed gained got) = is_visited e flushed
local_flushes e part = false

-- a part flushes the element
abbrev pub flushes : ℕ → Part → Bool
flushes e (parts.Local part) = local_flushes e part
flushes e part = false

-- Whether the last turn so far that put an element on pending or took it off is one that flushed it: by whether the element
-- has a row before a turn and after it.
abbrev pub flushed_then : Bool → Bool → Option ℕ → Option ℕ → Bool
flushed_then was by_it before (Some h) = false
flushed_then was by_it (Some h) None = by_it
flushed_then was by_it None None = was

unfoldable pub flushed_from : Shape → ℕ → Bool → Content → List Entry → Bool
flushed_from shape e was before [] = was
flushed_from shape e was before (entry ∷ entries) =
    let now = content_after shape entry.cpu entry.part before in
    flushed_from shape e (flushed_then was (flushes e entry.part) (stored_in before e) (stored_in now e)) now entries

-- of the turns behind the first n alone, which go on from what those led to
abbrev pub flushed_since : Shape → DomainId → ℕ → ℕ → List Entry → Bool
flushed_since shape lock n e entries = flushed_from shape e false (content shape lock (take n entries)) (drop n entries)
