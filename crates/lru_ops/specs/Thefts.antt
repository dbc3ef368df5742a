-- The walks over the pending list of local lists that look for an element to steal, while the lock of these lists is held.
use Rattle.std.specs.Prelude.{◌≡◌, ℕ, true, false, List, [], ◌∷◌, ◌++◌, Option, None, Some, IfSome}
use Rattle.map_types.specs.declared.attr.Shape.{Shape}
use Rattle.map_types.specs.declared.kind.DomainId.{DomainId}
use Rattle.map_types.specs.declared.kind.DomainId.TheVariants.{Local, Global}
use Rattle.map_types.specs.declared.row.Row.{Row}
use Rattle.map_types.specs.ElementLists.{IsIn}
use Rattle.map_types.specs.Listed.{elements_of}
use Rattle.map_types.specs.Stored.{Stored, IsSized}
use Rattle.place_words.specs.declared.history.Part.{Part}
use Rattle.place_words.specs.declared.history.Part.TheVariants as parts
use Rattle.place_words.specs.declared.list_part.LocalPart.TheVariants as local
use Rattle.place_words.specs.declared.list_part.Stolen.{Stolen}
use Rattle.place_words.specs.declared.list_part.Stolen.TheVariants.{Pending, Nothing}
use Rattle.place_words.specs.declared.visits.Look.{Look}
use Rattle.place_words.specs.declared.visits.Try.{Try}
use Rattle.place_words.specs.Histories.{in_locals, content}
use Rattle.place_words.specs.Locals.{IsSearch}
use Rattle.place_words.specs.Locks.{lock_named}
use Rattle.place_words.specs.Shrinking.{freed}
use Rattle.place_table.specs.declared.view.Hold.{Hold}
use Rattle.place_table.specs.Contents.{FitsLocal, lists_of}
use Rattle.place_table.specs.Passes.{PassView, TableView}
use Rattle.place_table.specs.Views.{is_among, is_in_hand_of}
use Rattle.local_lists.specs.LocalLists.{LocalView, local_told, without_pending}
use Rattle.lru_lists.specs.declared.bits.BitCall.{BitCall}
use Rattle.lru_lists.specs.declared.bits.ProbeCall.{ProbeCall}
use Rattle.lru_lists.specs.declared.notes.Noted.{Noted}
use Rattle.lru_lists.specs.declared.notes.Noted.TheVariants as noted
use Rattle.lru_lists.specs.Notes.{AreNoted}
use Rattle.lru_shrink.specs.Searches.{bits_read, IsFound, SparingSearch, UnsparingSearch}
use Rattle.lru_shrink.specs.Shrunk.{probes_of_looks, probes_of_tries}
use Rattle.lru_ops.specs.declared.probing.Destination.TheVariants.{OwnHand}
use Rattle.lru_ops.specs.Askings.{Does}
use Rattle.lru_ops.specs.Evictions.{HoldsLists}

-- the lock that was taken last, where one is held
abbrev pub last_lock : Shape → List Hold → DomainId
last_lock shape [] = Global
last_lock shape (hold ∷ holds) = lock_named shape hold.lock

-- The pass holds the lock of these local lists and no other, and they are as it took them. Its CPUs have nothing in hand.
pub record CanSearch (t : TableView) (lists : LocalView) (p : PassView) : Type 0 where
  pub from : ℕ
  pub holds : HoldsLists t (Local from) p
  pub alone : holds.outer ≡ []
  pub hands_empty : (e cpu : ℕ) → is_among cpu p.view.cpus ≡ true → is_in_hand_of e cpu p.view.hand ≡ false
  pub found : in_locals (local_told lists) ≡ content t.shape (Local from) holds.hold.log
  pub now : holds.hold.now ≡ lists_of (in_locals (local_told lists))
  pub fits : FitsLocal t.shape lists

-- The walk over these rows that spares set bits was made by this pass. What a probe removed is in the CPU's hand, which carries it.
pub record SearchedSparing (t : TableView) (rows : List Row) (notes notes_after : Noted Look) (p q : PassView) (found : Option Stored) : Type 0 where
  pub calls : List BitCall
  pub probes : List ProbeCall
  pub search : SparingSearch rows (IsSized t.shape)
      (record { asked = record { calls = []; probes = [] }; notes = notes })
      (record { asked = record { calls = calls; probes = probes }; notes = notes_after }) found
  pub does : Does t OwnHand rows calls probes p q

-- The walk that spares none was.
pub record SearchedAll (t : TableView) (rows : List Row) (notes notes_after : Noted Try) (p q : PassView) (found : Option Stored) : Type 0 where
  pub probes : List ProbeCall
  pub search : UnsparingSearch rows (IsSized t.shape)
      (record { asked = record { calls = []; probes = [] }; notes = notes })
      (record { asked = record { calls = []; probes = probes }; notes = notes_after }) found
  pub does : Does t OwnHand rows [] probes p q

-- Both walks at a moment: the notes of each, and the pass that makes them.
pub record BothWalks : Type 0 where
  pub first : Noted Look
  pub second : Noted Try
  pub pass : PassView

abbrev pub both_walks : Noted Look → Noted Try → PassView → BothWalks
both_walks first second pass = record { first = first; second = second; pass = pass }

-- Both walks as one, the second where the first removed nothing: what they looked at and tried, and what that removed.
pub record Walked (t : TableView) (lists : LocalView) (before after : BothWalks) (found : Option Stored) : Type 0 where
  pub looks : List Look
  pub tries : List Try
  pub noted_first : AreNoted looks before.first after.first
  pub noted_second : AreNoted tries before.second after.second
  pub search : IsSearch (local_told lists) looks tries
  pub removed : IsFound (IsSized t.shape) (freed looks tries) found
  pub there : IfSome found (λ body. IsIn body.element (elements_of lists.pending))
  pub probes : List ProbeCall
  pub probes_are : probes ≡ probes_of_looks lists.pending looks ++ probes_of_tries lists.pending tries
  pub does : Does t OwnHand lists.pending (bits_read looks) probes before.pass after.pass

-- the lists without the element that was found, if any
abbrev pub lists_without : Option Stored → LocalView → LocalView
lists_without None lists = lists
lists_without (Some body) lists = without_pending body.element lists

-- and what was found left the pending list
pub record Searched (t : TableView) (lists lists_after : LocalView) (before after : BothWalks) (found : Option Stored) : Type 0 where
  pub walked : Walked t lists before after found
  pub after_is : lists_after ≡ lists_without found lists

-- what is told to be stolen by what a search found
abbrev pub stolen_of : Option Stored → Stolen
stolen_of None = Nothing
stolen_of (Some body) = Pending body.element

-- what is told of a theft where all notes were kept
abbrev pub IsTheft : Stolen → Noted Look → Noted Try → Part → Type 0
IsTheft stolen first second part =
    (looks : List Look) → (tries : List Try) → AreNoted looks (noted.Kept []) first → AreNoted tries (noted.Kept []) second
    → part ≡ parts.Local (local.Steal stolen looks tries)
