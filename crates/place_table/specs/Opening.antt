-- A table at its opening: its words, its slots, and the spares that its first pass keeps.
use Rattle.std.specs.Prelude.{◌≡◌, ℕ, ◌<◌, ◌≤◌, false, List, [], length, Option, MatchOption, IsFalse, slice_index_or}
use mathlib.Core.Option.{some}
use lib.ListN.{get_elem?}
use Rattle.map_types.specs.declared.attr.Shape.{Shape}
use Rattle.map_types.specs.declared.kind.DomainId.{DomainId}
use Rattle.map_types.specs.Stored.{Stored, IsSized}
use Rattle.place_words.specs.Histories.{opening_content}
use Rattle.place_words.specs.Locks.{is_lock, lock_named}
use Rattle.place_table.specs.declared.content.Content.{Content}
use Rattle.place_table.specs.declared.content.Behind.{Behind}
use Rattle.place_table.specs.Contents.{content_told, FitsLock}
use Rattle.place_table.specs.Rules.{KeptAs}
use Rattle.place_table.specs.Passes.{spare_of}

-- a content is what lies under a lock at first, and there is none where the map has no such lock
abbrev pub IsFirstContent : Shape → DomainId → Option Content → Type 0
IsFirstContent shape lock found =
    MatchOption found (IsFalse (is_lock shape lock)) (λ here. (content_told lock here ≡ opening_content shape lock) × FitsLock shape lock here)

-- a slot at first, with no turn of its lock recorded
pub record IsFirstSlot (shape : Shape) (k : ℕ) (behind : Behind) : Type 0 where
  pub content : IsFirstContent shape (lock_named shape k) behind.content
  pub kept : KeptAs (lock_named shape k) false [] behind

-- the slots of the first n locks
pub record AreFirstSlots (shape : Shape) (n : ℕ) (slots : List Behind) : Type 0 where
  pub count : length slots ≡ n
  pub each : (k : ℕ) → k < n → (behind : Behind) × (get_elem? slots k ≡ some behind) × IsFirstSlot shape k behind

-- the bodies of some elements, by CPU from CPU 0 on, and no more
abbrev pub AreBodiesOf : Shape → List ℕ → List (Option Stored) → Type 0
AreBodiesOf shape elements bodies =
    (cpu : ℕ) → MatchOption (spare_of cpu bodies) (length elements ≤ cpu) (λ body. (cpu < length elements) × (body.element ≡ slice_index_or elements cpu 0) × IsSized shape body)
