-- How an element is taken for a new key, and how one is freed: what each leaves of a pass.
use Rattle.std.specs.Prelude.{IsTrue, ◌≡◌, ◌≢◌, ◌⊎◌, ℕ, ◌<◌, true, false, All, List, [], ◌∷◌, ◌++◌, drop, map, option_map, reverse, Option, None, Some, MatchOption, MatchBool}
use Rattle.key_hash.specs.Bucket.{bucket_number}
use Rattle.map_types.specs.declared.attr.Shape.{Shape}
use Rattle.map_types.specs.declared.kind.DomainId.TheVariants.{Local, Global, CpuLru}
use Rattle.map_types.specs.Creation.{IsShape}
use Rattle.map_types.specs.Kind.{is_lru}
use Rattle.map_types.specs.Listed.{elements_of}
use Rattle.map_types.specs.Stored.{Stored, IsSized}
use Rattle.place_words.specs.declared.bucket_part.Seen.TheVariants.{Held}
use Rattle.place_words.specs.declared.history.Part.TheVariants as parts
use Rattle.place_words.specs.declared.home.Home.{Home}
use Rattle.place_words.specs.declared.home.Home.TheVariants as homes
use Rattle.place_words.specs.declared.list_part.GlobalPart.TheVariants as global
use Rattle.place_words.specs.declared.list_part.LocalPart.TheVariants as local
use Rattle.place_words.specs.declared.list_part.Stolen.TheVariants.{Nothing}
use Rattle.place_words.specs.declared.visits.Flush.{Flush}
use Rattle.place_words.specs.declared.visits.Look.{Look}
use Rattle.place_words.specs.declared.visits.Try.{Try}
use Rattle.place_words.specs.declared.visits.Visit.{Visit}
use Rattle.place_words.specs.Globals.{global_target, flushed_rotated}
use Rattle.place_words.specs.Histories.{in_locals, in_global, in_own}
use Rattle.place_words.specs.Locals.{LocalLists}
use Rattle.place_words.specs.Sets.{ListSet, own_scans, rotated_set}
use Rattle.place_words.specs.Shrinking.{after_looks, forced_rows}
use Rattle.place_words.specs.Takings.{Acquires, Frees, FreesFlushed, freed_globally, ends_flushed, walk_probes}
use Rattle.place_words.specs.Turns.{TurnAt, found, on_lock, ring, turns_of}
use Rattle.place_table.specs.declared.view.Turned.{Turned}
use Rattle.place_table.specs.declared.view.WordStep.{WordStep}
use Rattle.place_table.specs.Calls.{AreTold, FindNoneMoved, bits_of_turns}
use Rattle.place_table.specs.Known.{Learns, turn_of, turn_at, IsBy}
use Rattle.place_table.specs.Passes.{PassView, TableView, IsPassOf, HasBegun, Made, SawHome}
use Rattle.place_table.specs.Rules.{home_step}
use Rattle.place_table.specs.Views.{is_in_hand_of, bucket_known, with_in_hand, without_in_hand}
use Rattle.lru_ops.specs.Evictions.{SawHolders}
use Rattle.lru_ops.specs.OwnTurns.{note_of, own_part}

-- the table is that of a map that evicts, with a shape within the limits
abbrev pub MapEvicts : TableView → Type 0
MapEvicts t = IsShape t.shape × IsTrue (is_lru t.shape.kind)

-- These turns were made, which are told so. The locks that the pass holds, what is noted of them, its spares and what it carries stay.
-- What may have changed is what it has in hand, what it knows of that, of turns and of bits, and its steps on words and looks at homes.
pub record Changed (t : TableView) (before after : PassView) (steps told : List Turned) (lost : List ℕ) : Type 0 where
  pub told_are : AreTold t.shape lost steps told
  pub made : Made before after steps lost
  pub by_call : All (IsBy before.cpu before.call) steps
  pub spares : after.spares ≡ before.spares
  pub carried : after.view.carried ≡ before.view.carried
  pub learns : Learns t.shape before.view after.view steps (bits_of_turns t.shape told)
  pub none_moved : FindNoneMoved t before told

-- an element that was taken for a key of this hash: it is one of the map's, and the bucket of its last stored hash is known to be that
-- of this hash
pub record IsTakenFor (t : TableView) (hash : ℕ) (after : PassView) (body : Stored) : Type 0 where
  pub real : body.element < t.shape.elements
  pub sized : IsSized t.shape body
  pub hashed : bucket_known body.element after.cpu after.view.hashes ≡ Some (bucket_number hash t.shape.buckets)

-- a probe found its element in the hand of another CPU
abbrev pub IsHeldByOther : ℕ → Try → Type 0
IsHeldByOther cpu probe = (holder : ℕ) × (probe.probed ≡ Held holder) × (holder ≢ cpu)

-- Why no element was found where each CPU has a list set of its own: the last of these turns is one of the CPU's own set, whose free
-- list was empty. After its looks the forced walk tried all that was inactive, or all that was active where nothing was inactive. Each
-- probe, of the looks and of the forced walk, found its element in the hand of another CPU.
pub record FoundNoneOwn (shape : Shape) (cpu hash : ℕ) (turns : List Turned) : Type 0 where
  pub probing : List Turned
  pub last : Turned
  pub turns_are : turns ≡ probing ++ last ∷ []
  pub set : ListSet
  pub found_there : found shape (turn_at shape last) ≡ in_own set
  pub none_free : set.free ≡ []
  pub active : List Visit
  pub inactive : List Visit
  pub looks : List Look
  pub forced : List Try
  pub last_is : turn_of shape last ≡ on_lock (CpuLru cpu) (own_part hash active inactive (note_of true looks forced) None)
  pub tried_all : map (λ try. try.element) forced ≡ elements_of (reverse (forced_rows (after_looks (rotated_set own_scans active inactive set).lists looks)))
  pub held : All (IsHeldByOther cpu) (walk_probes looks forced)

-- A turn of the global lists that gave none: their free list was empty. After its looks the forced walk tried all that was inactive, or
-- all that was active where nothing was inactive. Each probe found its element in the hand of another CPU.
pub record GaveNone (shape : Shape) (cpu : ℕ) (turns : List Turned) : Type 0 where
  pub probing : List Turned
  pub last : Turned
  pub turns_are : turns ≡ probing ++ last ∷ []
  pub set : ListSet
  pub found_there : found shape (turn_at shape last) ≡ in_global set
  pub none_free : set.free ≡ []
  pub flushed : List Flush
  pub active : List Visit
  pub inactive : List Visit
  pub looks : List Look
  pub forced : List Try
  pub last_is : turn_of shape last ≡ on_lock Global (parts.Global (global.Turn flushed active inactive [] (Some (record { target = global_target; looks = looks; forced = forced }))))
  pub tried_all : map (λ try. try.element) forced ≡ elements_of (reverse (forced_rows (after_looks (flushed_rotated flushed active inactive set).lists looks)))
  pub held : All (IsHeldByOther cpu) (walk_probes looks forced)

-- A theft that found none under the local lists of a CPU: their free list was empty, and each pending element was probed at last, and
-- was in the hand of another CPU than the thief.
pub record StoleNone (shape : Shape) (cpu from : ℕ) (turns : List Turned) : Type 0 where
  pub probing : List Turned
  pub last : Turned
  pub turns_are : turns ≡ probing ++ last ∷ []
  pub lists : LocalLists
  pub found_there : found shape (turn_at shape last) ≡ in_locals lists
  pub none_free : lists.free ≡ []
  pub first : List Look
  pub second : List Try
  pub last_is : turn_of shape last ≡ on_lock (Local from) (parts.Local (local.Steal Nothing first second))
  pub tried_all : map (λ try. try.element) second ≡ elements_of (reverse lists.pending)
  pub held : All (IsHeldByOther cpu) (walk_probes first second)

abbrev pub StoleNoneOf : Shape → ℕ → List ℕ → List Turned → Type 0
StoleNoneOf shape cpu [] turns = turns ≡ []
StoleNoneOf shape cpu (from ∷ others) turns =
    (tried : List Turned) × (rest : List Turned) × ((turns ≡ tried ++ rest) × StoleNone shape cpu from tried × StoleNoneOf shape cpu others rest)

-- Why no element was found where the CPUs share lists: the own local free list was empty, a turn of the global lists gave none, and a
-- theft from the local lists of every CPU, in the order of the ring from the own steal cursor, found none.
pub record FoundNoneShared (shape : Shape) (cpu hash : ℕ) (turns : List Turned) : Type 0 where
  pub inner : List Turned
  pub last : Turned
  pub stealing : List Turned
  pub turns_are : turns ≡ (inner ++ last ∷ []) ++ stealing
  pub gave_none : GaveNone shape cpu inner
  pub lists : LocalLists
  pub found_there : found shape (turn_at shape last) ≡ in_locals lists
  pub none_free : lists.free ≡ []
  pub flushed : List Visit
  pub last_is : turn_of shape last ≡ on_lock (Local cpu) (parts.Local (local.Refill hash flushed [] None))
  pub stole_none : StoleNoneOf shape cpu (ring lists.steal shape.cpus) stealing

abbrev pub FoundNone : Shape → ℕ → ℕ → List Turned → Type 0
FoundNone shape cpu hash turns = MatchBool shape.common (FoundNoneShared shape cpu hash turns) (FoundNoneOwn shape cpu hash turns)

-- An element was taken for a key of this hash, by turns that take it. It is in the CPU's hand. Or these turns got none, and show why.
-- In either case each holder that a probe tells was read meanwhile in the owner word of the element.
pub record Acquired (t : TableView) (hash : ℕ) (before after : PassView) (found : Option Stored) : Type 0 where
  pub steps : List Turned
  pub told : List Turned
  pub lost : List ℕ
  pub changed : Changed t before after steps told lost
  pub trace : Acquires t.shape before.cpu hash (option_map (λ (body : Stored). body.element) found) (map (turn_at t.shape) told)
  pub hand : MatchOption found (after.view.hand ≡ before.view.hand) (λ body. after.view.hand ≡ with_in_hand body.element before.cpu before.view.hand)
  pub taken : MatchOption found (Unit {0}) (IsTakenFor t hash after)
  pub none : MatchOption found (FoundNone t.shape before.cpu hash told) (λ body. Unit {0})
  pub saw : SawHolders t.shape before after (steps ++ told)

-- An element that is freed is in the CPU's hand, and its home is a lock: the CPU doesn't carry it. The pass holds no lock.
pub record CanFree (t : TableView) (body : Stored) (p : PassView) : Type 0 where
  pub of_table : IsPassOf t p
  pub begun : HasBegun p
  pub no_lock : p.view.held ≡ []
  pub real : body.element < t.shape.elements
  pub sized : IsSized t.shape body
  pub in_hand : is_in_hand_of body.element p.cpu p.view.hand ≡ true
  pub not_carried : is_in_hand_of body.element p.cpu p.view.carried ≡ false

-- The first step on a word that the pass made meanwhile read the home of an element so. This look, with the number of the step and, where
-- it read local lists, how many turns these had had, is the one that the pass has more than before: those that it has are counted in
-- every state of the table (`KeepsTurns`), so the number of turns can't be another.
pub record ReadHomeFirst (t : TableView) (before after : PassView) (e : ℕ) (home : Home) : Type 0 where
  pub read : PassView
  pub saw : SawHome t e before read home
  pub later : List WordStep
  pub touched_are : after.view.touched ≡ before.view.touched ++ home_step t.shape (record { element = e; home = home }) saw.at ∷ later
  pub homes_are : after.view.homes_read ≡ before.view.homes_read ++ record { element = e; home = home; at = saw.at; turns = saw.turns } ∷ []

-- The turns that free an element whose home was read so, as local lists once these had had n turns: the one of these local lists, where
-- it was pending; or one that didn't find it there any more, and one of the global lists, since of the turns that they had had since the
-- reading the last one that put it on pending or took it off flushed it; or where the home was read as the global lists, their turn
-- alone.
abbrev pub FreesFrom : Home → ℕ → ℕ → List TurnAt → Type 0
FreesFrom (homes.In (Local cpu)) n e turns =
    (turns_of turns ≡ on_lock (Local cpu) (parts.Local (local.Push e true)) ∷ [])
    ⊎ ((moved : FreesFlushed e turns) × (moved.on ≡ cpu) × IsTrue (ends_flushed e false (drop n moved.first.earlier)))
FreesFrom (homes.In Global) n e turns = turns_of turns ≡ freed_globally e ∷ []
FreesFrom home n e turns = ⊥

-- It was freed, by turns that free it, and is in the CPU's hand no more. Where the CPUs share lists its home was read first, and the
-- turns are those that free it from there.
pub record Freed (t : TableView) (body : Stored) (before after : PassView) : Type 0 where
  pub steps : List Turned
  pub changed : Changed t before after steps steps []
  pub trace : Frees t.shape body.element (map (turn_at t.shape) steps)
  pub by_home : IsTrue t.shape.common → (home : Home) × (first : ReadHomeFirst t before after body.element home) × FreesFrom home first.saw.turns body.element (map (turn_at t.shape) steps)
  pub hand : after.view.hand ≡ without_in_hand body.element before.cpu before.view.hand
