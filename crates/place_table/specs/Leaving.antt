-- What the slots of a closed table leave.
use Rattle.std.specs.Prelude.{◌≡◌, ℕ, ◌+◌, ◌<◌, ◌≤◌, Bool, true, false, not, List, [], ◌∷◌, length, vec_capacity, map, filter, take, drop, Option, None, Some, MatchOption, option_map, option_to_list, All, Vec, slice_get, slice_index_or, ◌||◌, if◌then◌else◌}
use Rattle.std.specs.Global.{Global}
use Rattle.std.specs.List.{flat_map, range_with_len, list_any}
use Rattle.map_types.specs.declared.attr.Shape.{Shape}
use Rattle.map_types.specs.declared.kind.DomainId.{DomainId}
use Rattle.map_types.specs.declared.kind.DomainId.TheVariants as named
use Rattle.map_types.specs.Kind.{is_lru}
use Rattle.map_types.specs.Stored.{Stored, IsSized}
use Rattle.place_words.specs.declared.finals.LocalFinal.{LocalFinal}
use Rattle.place_words.specs.declared.finals.SetFinal.{SetFinal}
use Rattle.place_words.specs.declared.history.Entry.{Entry}
use Rattle.place_words.specs.declared.history.LockHistory.{LockHistory}
use Rattle.place_words.specs.declared.history.Strand.{Strand}
use Rattle.place_words.specs.Histories.{content}
use Rattle.place_words.specs.State.{is_bucket}
use Rattle.place_words.specs.Locks.{lock_named, lock_number, lock_count, first_set, first_bucket, first_freelist}
use Rattle.place_words.specs.Locals.{new_locals}
use Rattle.place_words.specs.Logs.{final_set, final_local}
use Rattle.place_words.specs.Sets.{new_set}
use Rattle.place_words.specs.Bodies.{numbers}
use Rattle.local_lists.specs.LocalLists.{local_told}
use Rattle.place_table.specs.declared.close.Emptied.{Emptied}
use Rattle.place_table.specs.declared.lists_left.ListsLeft.{ListsLeft}
use Rattle.place_words.specs.declared.turn_logs.LoggedTurn.{LoggedTurn}
use Rattle.place_words.specs.TurnLogs.{turn_logged}
use Rattle.place_table.specs.declared.content.Content.{Content}
use Rattle.place_table.specs.declared.content.SlotTurns.{SlotTurns}
use Rattle.place_table.specs.SlotTurns.{HasTurns}
use Rattle.place_table.specs.declared.content.Content.TheVariants.{Bucket, Freelist, Local, Set}
use Rattle.place_table.specs.Contents.{content_told, set_told, FitsLock}
use Rattle.place_table.specs.declared.strands.FinishedStrand.{FinishedStrand}
use Rattle.place_table.specs.declared.view.Ended.{Ended}
use Rattle.place_table.specs.Passes.{spare_of}
use Rattle.place_table.specs.Closing.{ClosedView, has_lock, history_of, strands_told, IsLeft}

-- of each lock by number its turns
abbrev pub Logs : Type 0
Logs = ℕ → List Entry

-- the bodies of a bucket, and the elements of a freelist
abbrev pub bodies_in : Option Content → List Stored
bodies_in (Some (Bucket chain)) = chain.bodies
bodies_in content = []

abbrev pub numbers_in : Option Content → List ℕ
numbers_in (Some (Freelist freelist)) = numbers freelist.bodies
numbers_in content = []

-- the elements of a list set, and its cursor
abbrev pub set_in : Option Content → SetFinal
set_in (Some (Set set)) = final_set (set_told set)
set_in content = final_set (new_set [])

-- the elements of local lists, and the CPU from which the next theft starts
abbrev pub locals_in : Option Content → LocalFinal
locals_in (Some (Local lists)) = final_local (local_told lists)
locals_in content = final_local (new_locals 0)

-- the freelists of a map that doesn't evict, by CPU; of one that evicts the set that the CPUs share, with their local lists by CPU,
-- or a list set for each
abbrev pub freelists_in : Shape → List (Option Content) → List (List ℕ)
freelists_in shape freelists = if is_lru shape.kind then [] else map numbers_in freelists

abbrev pub sets_in : Shape → List (Option Content) → List SetFinal
sets_in shape lists =
    if shape.common then set_in (slice_index_or lists (lock_number shape named.Global) None) ∷ []
    else (if is_lru shape.kind then map set_in (drop (first_set shape) lists) else [])

abbrev pub all_locals_in : Shape → List (Option Content) → List LocalFinal
all_locals_in shape lists = if shape.common then map locals_in (take shape.cpus lists) else []

-- the elements of the spares that are kept, in the order of their CPUs
abbrev pub spares_in : Shape → List (Option Stored) → List ℕ
spares_in shape spares = flat_map (λ cpu. option_to_list (option_map (λ (body : Stored). body.element) (spare_of cpu spares))) (range_with_len 0 shape.cpus)

-- the bodies of a bucket have the sizes of the map
abbrev pub HasSizedBodies : Shape → Option Content → Type 0
HasSizedBodies shape content = All (IsSized shape) (bodies_in content)

-- the turns of a lock as its slot has them, nothing where their record is lost
abbrev pub IsSlotHistory : DomainId → Bool → List Entry → Option SlotTurns → Type 0
IsSlotHistory lock lost log history = MatchOption history (lost ≡ true) (λ turns. (lost ≡ false) × HasTurns lock log turns)

-- those of all locks that the map has, by number
abbrev pub HaveHistories : Shape → Logs → (ℕ → Bool) → List (Option SlotTurns) → Type 0
HaveHistories shape log lost histories =
    (k : ℕ) → k < lock_count shape → has_lock shape k ≡ true → IsSlotHistory (lock_named shape k) (lost k) (log k) (slice_index_or histories k None)

-- the turns of a lock as they are handed out, nothing where their record is lost
abbrev pub IsHistory : Bool → List Entry → Option (List Entry) → Type 0
IsHistory lost log history = MatchOption history (lost ≡ true) (λ entries. (lost ≡ false) × (entries ≡ log))

-- how many turns of a bucket are logged, nothing where their record is lost
abbrev pub IsCount : Bool → List Entry → Option ℕ → Type 0
IsCount lost log count = MatchOption count (lost ≡ true) (λ n. (lost ≡ false) × (n ≡ length log))

-- those of the first n buckets
pub record AreCounts (shape : Shape) (log : Logs) (lost : ℕ → Bool) (n : ℕ) (counts : List (Option ℕ)) : Type 0 where
  pub counted : length counts ≡ n
  pub each : (bucket : ℕ) → bucket < n → IsCount (lost (first_bucket shape + bucket)) (log (first_bucket shape + bucket)) (slice_index_or counts bucket None)

-- a turn of a bucket stands in one of these logs
pub record StandsInLogs (logs : List (Vec LoggedTurn Global)) (bucket index : ℕ) : Type 0 where
  pub log : ℕ
  pub turns : Vec LoggedTurn Global
  pub turn : ℕ
  pub logged : LoggedTurn
  pub log_is : slice_get logs log ≡ Some turns
  pub turn_is : slice_get turns.items turn ≡ Some logged
  pub bucket_is : logged.bucket ≡ bucket
  pub index_is : logged.index ≡ index

-- Logs tell the turns of buckets: each turn in them is one of its bucket, at its place, and of a bucket whose record isn't lost
-- every turn stands there.
pub record TellTurns (shape : Shape) (log : Logs) (lost : ℕ → Bool) (logs : List (Vec LoggedTurn Global)) : Type 0 where
  pub sound : (l n : ℕ) (turns : Vec LoggedTurn Global) (turn : LoggedTurn) → slice_get logs l ≡ Some turns → slice_get turns.items n ≡ Some turn
      → slice_get (log (first_bucket shape + turn.bucket)) turn.index ≡ Some (turn_logged turn)
  pub whole : (bucket index : ℕ) → bucket < shape.buckets → lost (first_bucket shape + bucket) ≡ false → index < length (log (first_bucket shape + bucket)) → StandsInLogs logs bucket index

-- what lies under all locks that the map has, by number
abbrev pub AreContents : Shape → Logs → List (Option Content) → Type 0
AreContents shape log contents =
    (k : ℕ) → k < lock_count shape → has_lock shape k ≡ true
    → (here : Content) × (slice_index_or contents k None ≡ Some here) × (content_told (lock_named shape k) here ≡ content shape (lock_named shape k) (log k)) × FitsLock shape (lock_named shape k) here

-- what is kept of the turns of so many locks from a number on; those that the map has are no buckets
abbrev pub HaveTurnsFrom : Shape → Logs → (ℕ → Bool) → ℕ → List (Option SlotTurns) → Type 0
HaveTurnsFrom shape log lost first turns =
    (k : ℕ) → k < length turns → has_lock shape (first + k) ≡ true
    → (is_bucket (lock_named shape (first + k)) ≡ false) × IsSlotHistory (lock_named shape (first + k)) (lost (first + k)) (log (first + k)) (slice_index_or turns k None)

-- the histories of the first n locks, and whether one of them is lost
pub record AreKept (shape : Shape) (log : Logs) (lost : ℕ → Bool) (n : ℕ) (kept : List LockHistory) (some_lost : Bool) : Type 0 where
  pub kept_are : kept ≡ map (history_of shape log) (filter (λ k. not (lost k)) (filter (has_lock shape) (range_with_len 0 n)))
  pub lost_is : some_lost ≡ list_any lost (filter (has_lock shape) (range_with_len 0 n))

-- Of the contents of all slots, by number: the lists that lay under the locks before the buckets, the bodies of the buckets, and what
-- lay under the locks behind them.
pub record AreApart (shape : Shape) (contents : List (Option Content)) (lists : ListsLeft) (freelists : List (Option Content)) (buckets : List (List Stored)) : Type 0 where
  pub sets_are : lists.sets.items ≡ sets_in shape (take (first_bucket shape) contents)
  pub locals_are : lists.locals.items ≡ all_locals_in shape (take (first_bucket shape) contents)
  pub buckets_are : buckets ≡ drop (first_bucket shape) (take (first_freelist shape) (map bodies_in contents))
  pub freelists_are : freelists ≡ drop (first_freelist shape) contents

-- the first n slots are empty, and the others full
pub record AreTaken (n : ℕ) (slots : List Bool) : Type 0 where
  pub gone : (k : ℕ) → k < n → slice_index_or slots k false ≡ false
  pub full : (k : ℕ) → n ≤ k → k < length slots → slice_index_or slots k false ≡ true

-- nothing came out yet, and there is room for all
pub record HasRoom (shape : Shape) (emptied : Emptied) : Type 0 where
  pub no_lists : emptied.lists.items ≡ []
  pub room_for_lists : first_bucket shape ≤ vec_capacity emptied.lists
  pub no_buckets : emptied.buckets.items ≡ []
  pub room_for_buckets : shape.buckets ≤ vec_capacity emptied.buckets
  pub no_counts : emptied.counts.items ≡ []
  pub room_for_counts : shape.buckets ≤ vec_capacity emptied.counts
  pub no_freelists : emptied.freelists.items ≡ []
  pub room_for_freelists : shape.cpus ≤ vec_capacity emptied.freelists
  pub no_turns : emptied.turns.items ≡ []
  pub room_for_turns : shape.cpus ≤ vec_capacity emptied.turns
  pub no_histories : emptied.histories.kept.items ≡ []
  pub none_lost : emptied.histories.lost ≡ false
  pub room_for_histories : lock_count shape ≤ vec_capacity emptied.histories.kept

-- what came out of all slots, by what is kept of turns there: how many turns of each bucket are logged, what is kept of those of the
-- locks behind them, and the histories of the locks before them, with room for all others
pub record IsEmptied (shape : Shape) (histories : List (Option SlotTurns)) (emptied : Emptied) : Type 0 where
  pub counted : length emptied.counts.items ≡ shape.buckets
  pub many : length emptied.turns.items ≡ shape.cpus
  pub few : length emptied.histories.kept.items ≤ first_bucket shape
  pub room : lock_count shape ≤ vec_capacity emptied.histories.kept
  pub counts : (log : Logs) (lost : ℕ → Bool) → HaveHistories shape log lost histories → AreCounts shape log lost shape.buckets emptied.counts.items
  pub turns : (log : Logs) (lost : ℕ → Bool) → HaveHistories shape log lost histories → HaveTurnsFrom shape log lost (first_freelist shape) emptied.turns.items
  pub kept : (log : Logs) (lost : ℕ → Bool) → HaveHistories shape log lost histories → AreKept shape log lost (first_bucket shape) emptied.histories.kept.items emptied.histories.lost

-- a strand that was kept, with its CPUs ascending
abbrev pub finished_told : Shape → FinishedStrand → Strand
finished_told shape strand = record { phase = 0; cpus = filter (λ cpu. slice_index_or strand.cpus cpu false) (range_with_len 0 shape.cpus); steps = strand.steps }

-- the histories and strands that are handed out, and whether a record is lost; where the strands are lost, so is every record
pub record AreTold (shape : Shape) (log : Logs) (lost : ℕ → Bool) (strands : List Ended) (kept : List LockHistory) (told : List Strand) (some_lost : Bool) : Type 0 where
  pub strands_lost : Bool
  pub are_kept : AreKept shape log (λ k. strands_lost || lost k) (lock_count shape) kept some_lost
  pub told_are : told ≡ (if strands_lost then [] else strands_told shape strands)

-- and with them all that is handed out
pub record WasLeft (shape : Shape) (log : Logs) (lost bit : ℕ → Bool) (strands : List Ended) (spares : List (Option Stored)) (closed : ClosedView) : Type 0 where
  pub strands_lost : Bool
  pub left : IsLeft shape log (λ k. strands_lost || lost k) bit strands_lost strands spares closed
